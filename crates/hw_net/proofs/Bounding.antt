-- After what a lane does in a call no more waits on it than may, and for no longer once it closes.
use Rattle.std.proofs.Common.{◌≡◌, ◌≤◌, ◌<◌, ◌-◌, ◌==◌, ◌||◌, ◌++◌, ◌∷◌, [], ℕ, Bool, true, false, not, cond, List, length, Option, None, Some, refl, sym, ap, ◌∙◌, subst, arith, inl, inr, ◌⊎◌, take, drop, take-append-drop}
use Rattle.hw_lanes.specs.declared.http.Reply.{Reply}
use Rattle.hw_door.specs.declared.heard.Event.{Event}
use Rattle.hw_door.specs.declared.heard.Event.TheVariants as event
use Rattle.hw_door.specs.Traffic.{Answer}
use Rattle.hw_socket.specs.Lane as socket
use Rattle.hw_socket.specs.Masks.{Written}
use Rattle.hw_socket.specs.Sending as sending
use Rattle.hw_net.specs.declared.limits.TheConstants.{MOST_CLOSING, MOST_UNWRITTEN}
use Rattle.hw_net.specs.declared.protocol.Protocol.{Protocol}
use Rattle.hw_net.specs.declared.protocol.Protocol.TheVariants.{Http, Response, Socket}
use Rattle.hw_net.specs.declared.protocol.Stage.{Stage}
use Rattle.hw_net.specs.declared.protocol.Stage.TheVariants.{Live, Lost, Closing, Over}
use Rattle.hw_net.specs.Bounds.{has_wire, IsWithin, EachIs, AreWithin, IsInTime, NextIsWithin, NextIsInTime, FailsAreWithin, FlushesAreWithin, RepliesAreWithin, SendsAreWithin, ShutsAreWithin}
use Rattle.hw_net.specs.Door.{DoorState, ListensOrRests, ListenOrRest, Searches, index_of_first, kept, new_lane, with_accepted}
use Rattle.hw_net.specs.Flushing.{Gathers, WriteEach}
use Rattle.hw_net.specs.Lane.{Lane, waits, frames_of, after_end, owes, is_live, is_over, after_reply, protocol_after_shut}
use Rattle.hw_net.specs.Saying.{WritesOut, DropsOrWrites, Says, SaysAt, SaysIfEnded, SaysIfEndedAt, SaysMore, GathersOrSays, WritesIfLive, WritesIfLiveAt, must_end, has_closed_long, is_gathered, is_too_much}
use Rattle.hw_net.specs.Trace.{Chooses}
use Rattle.hw_net.specs.Turn.{Turns, TurnsAt, TurnAll, Loses, LosesAt, Replies, PutsAt, Puts, Sends, Shuts, AtLane}
use Rattle.hw_net.proofs.Bystanders.{SaysOrStays, ended-says, live-says}
use Rattle.hw_net.proofs.Fullness.{by-fullness, SaysPut}
use Rattle.hw_net.proofs.Moves.{Has, has-front, has-back, has-part, has-kept}

never : true ≡ false → ⊥
never e = absurd (cc e)

ended : (s : Stage) → has_wire (after_end s) ≡ false
ended Live = refl
ended Lost = refl
ended Closing = refl
ended Over = refl

second : (a b : Bool) → (a || b) ≡ false → b ≡ false
second true b e = absurd (never e)
second false b e = e

pub not-more : (n : ℕ) → is_too_much n ≡ false → n ≤ MOST_UNWRITTEN
not-more n e = grind (arith, e)

little : (s : Stage) (n : ℕ) (whole : Bool) → has_wire s ≡ true → must_end s n whole ≡ false → n ≤ MOST_UNWRITTEN
little Live n true h e = not-more n e
little Live n false h e = absurd (never e)
little Lost n whole h e = absurd (never (sym h))
little Closing n true h e = not-more n (second (n == 0) (is_too_much n) e)
little Closing n false h e = absurd (never e)
little Over n whole h e = absurd (never (sym h))

shut-within : (lane : Lane) → has_wire lane.stage ≡ false → IsWithin lane
shut-within lane e = λ has. go (sym has ∙ e) where
  go : true ≡ false → length (waits lane) ≤ MOST_UNWRITTEN
  go e = absurd (never e)

same-within : (before after : Lane) → after ≡ before → IsWithin before → IsWithin after
same-within before after e k = subst (λ (l : Lane). IsWithin l) (sym e) k

writes-within : (before after : Lane) (answers : List Answer) → WritesOut before after answers → IsWithin after
writes-within before after answers w = go (must_end before.stage (length (waits after)) w.is_whole) refl where
  go : (b : Bool) → must_end before.stage (length (waits after)) w.is_whole ≡ b → IsWithin after
  go true e = shut-within after (ap has_wire (w.ends e).1 ∙ ended before.stage)
  go false e = λ has. little before.stage (length (waits after)) w.is_whole (sym (ap has_wire (w.stays e).1) ∙ has) e

dropped-or-within : (is_dropped : Bool) (before after : Lane) (answers : List Answer) → DropsOrWrites is_dropped before after answers → IsWithin after
dropped-or-within true before after answers h = shut-within after (ap (λ (l : Lane). has_wire l.stage) h.1 ∙ ended before.stage)
dropped-or-within false before after answers h = writes-within before after answers h

says-within : (now : ℕ) (before after : Lane) (answers : List Answer) → Says now before after answers → IsWithin after
says-within now before after answers h = go before.stage refl h where
  go : (s : Stage) → before.stage ≡ s → SaysAt s now before after answers → IsWithin after
  go Live e h = writes-within before after answers h
  go Lost e h = shut-within after (ap (λ (l : Lane). has_wire l.stage) h.1 ∙ ap has_wire e)
  go Closing e h = dropped-or-within (has_closed_long now before.since) before after answers h
  go Over e h = shut-within after (ap (λ (l : Lane). has_wire l.stage) h.1 ∙ ap has_wire e)

pub bystander-within : (now : ℕ) (before after : Lane) (answers : List Answer) → IsWithin before → SaysOrStays now before after answers → IsWithin after
bystander-within now before after answers k (inl h) = says-within now before after answers h
bystander-within now before after answers k (inr h) = same-within before after h.0 k

more-within : (before after : Lane) (answers : List Answer) → SaysMore before after answers → IsWithin after
more-within before after answers h = dropped-or-within (is_too_much (length (waits before))) before after answers h

-- ---- hearing

loses-within : (trace : Option Event) (before after : Lane) (heard : Option Event) → Loses trace before after heard → IsWithin before → IsWithin after
loses-within (Some event) before after heard h k = same-within before after h.1 k
loses-within None before after heard h k = go before.stage h where
  go : (s : Stage) → LosesAt s before after heard → IsWithin after
  go Live h = same-within before after h.1 k
  go Lost h = shut-within after (ap (λ (l : Lane). has_wire l.stage) h.1)
  go Closing h = same-within before after h.1 k
  go Over h = same-within before after h.1 k

pub turn-within : (now : ℕ) (trace : Option Event) (before after : Lane) (answers : List Answer) (heard : Option Event) → IsWithin before → Turns now trace before after answers heard → IsWithin after
turn-within now (Some event) before after answers heard k h = bystander-within now before after answers k (ended-says now before after answers h.1)
turn-within now None before after answers heard k h = go before.stage refl h where
  go : (s : Stage) → before.stage ≡ s → TurnsAt s now before after answers heard → IsWithin after
  go Live e h = by-fullness IsWithin now before after answers heard
      (λ d said s. says-within now (record before { full = None }) after answers s)
      (λ s f. shut-within after (ap (λ (l : Lane). has_wire l.stage) f.2))
      (λ mid t. loses-within t.trace t.said mid heard t.loses (says-within now t.settled t.said t.written t.says))
      h
  go Lost e h = shut-within after (ap (λ (l : Lane). has_wire l.stage) h.2)
  go Closing e h = says-within now before after answers h.1
  go Over e h = shut-within after (ap (λ (l : Lane). has_wire l.stage) h.2 ∙ ap has_wire e)

-- each turn of a lane of which the one held leaves one of which the other holds
abbrev pub TurnsLeave : ℕ → (Lane → Type 0) → (Lane → Type 0) → Type 0
TurnsLeave now Was Is =
    (trace : Option Event) (before after : Lane) (answers : List Answer) (heard : Option Event) → Was before → Turns now trace before after answers heard → Is after

abbrev pub EachWas : (Lane → Type 0) → List Lane → Type 0
EachWas Was lanes = (lane : Lane) → Has lanes lane → Was lane

pub turns-leave : (now : ℕ) (Was Is : Lane → Type 0) (trace : Option Event) (lanes after : List Lane) (answers : List Answer) (heard : Option Event) → TurnsLeave now Was Is → EachWas Was lanes →
    TurnAll now trace lanes after answers heard → EachIs Is after
turns-leave now Was Is trace [] after answers heard each were h = subst (λ (l : List Lane). EachIs Is l) (sym h.0) tt
turns-leave now Was Is trace (lane ∷ lanes) after answers heard each were h =
    subst (λ (l : List Lane). EachIs Is l) (sym h.5)
    (each trace lane h.1 h.3 h.0 (were lane (inl refl)) h.7, turns-leave now Was Is h.0 lanes h.2 h.4 heard each (λ x has. were x (inr has)) h.8)

pub both-are : (Is : Lane → Type 0) (xs ys : List Lane) → EachIs Is xs → EachIs Is ys → EachIs Is (xs ++ ys)
both-are Is [] ys h k = k
both-are Is (x ∷ xs) ys h k = (h.0, both-are Is xs ys h.1 k)

silent-ended : (now : ℕ) (lane : Lane) → Says now lane lane [] → SaysIfEnded now lane lane []
silent-ended now lane h = go lane.stage h where
  go : (s : Stage) → SaysAt s now lane lane [] → SaysIfEndedAt s now lane lane []
  go Live h = (refl, refl)
  go Lost h = h
  go Closing h = h
  go Over h = h

-- each lane that rests is as it would be after a turn in which it only writes
parts-leave : (now : ℕ) (Was Is : Lane → Type 0) (lanes after : List Lane) (answers : List Answer) → TurnsLeave now Was Is → EachWas Was lanes → ListenOrRest now lanes after answers → EachIs Is after
parts-leave now Was Is [] after answers each were h = subst (λ (l : List Lane). EachIs Is l) (sym h.0) tt
parts-leave now Was Is (lane ∷ lanes) after answers each were h =
    subst (λ (l : List Lane). EachIs Is l) (sym h.4) (go h.6, parts-leave now Was Is lanes h.1 h.3 each (λ x has. were x (inr has)) h.7) where
      go : ListensOrRests now lane h.0 h.2 → Is h.0
      go (inl one) = each None lane h.0 h.2 None (were lane (inl refl)) one
      go (inr rest) = subst Is (sym rest.1) (each (Some event.Quiet) lane lane [] (Some event.Quiet) (were lane (inl refl)) (refl, silent-ended now lane rest.0.silent))

all-leave : (now : ℕ) (Was Is : Lane → Type 0) (from : ℕ) (before after : List Lane) (answers : List Answer) (heard : Option Event) → TurnsLeave now Was Is → EachWas Was before →
    Searches now from before after answers heard → EachIs Is after
all-leave now Was Is from before after answers heard each were h = go h where
  index : ℕ
  index = index_of_first from before

  whole : take index before ++ drop index before ≡ before
  whole = take-append-drop index before

  front : EachWas Was (take index before)
  front x has = were x (subst (λ (l : List Lane). Has l x) whole (has-front (take index before) (drop index before) x has))

  back : EachWas Was (drop index before)
  back x has = were x (subst (λ (l : List Lane). Has l x) whole (has-back (take index before) (drop index before) x has))

  go : Searches now from before after answers heard → EachIs Is after
  go (inr r) =
      subst (λ (l : List Lane). EachIs Is l) (sym r.order)
      (both-are Is r.last r.first (parts-leave now Was Is _ r.last r.answers_last each front r.parts_last) (parts-leave now Was Is _ r.first r.answers_first each back r.parts_first))
  go (inl h) =
      subst (λ (l : List Lane). EachIs Is l) (sym h.order)
      (both-are Is h.last h.first (turns-leave now Was Is h.trace _ h.last h.answers_last heard each front h.turns_last)
      (turns-leave now Was Is None _ h.first h.answers_first h.trace each back h.turns_first))

-- ---- how long a lane closes

not-closing : (s : Stage) → after_end s ≡ Closing → ⊥
not-closing Live e = cc e
not-closing Lost e = cc e
not-closing Closing e = cc e
not-closing Over e = cc e

-- a lane that doesn't close
not-late : (now : ℕ) (lane : Lane) → (lane.stage ≡ Closing → ⊥) → IsInTime now lane
not-late now lane never_closes = λ closes. absurd (never_closes closes)

same-time : (now : ℕ) (before after : Lane) → after ≡ before → IsInTime now before → IsInTime now after
same-time now before after e k = subst (λ (l : Lane). IsInTime now l) (sym e) k

in-time : (now since : ℕ) → has_closed_long now since ≡ false → now - since < MOST_CLOSING
in-time now since e = grind (arith, e)

ended-time : (now : ℕ) (before after : Lane) → after.stage ≡ after_end before.stage → IsInTime now after
ended-time now before after e = not-late now after (λ closes. not-closing before.stage (sym e ∙ closes))

writes-time : (now : ℕ) (before after : Lane) (answers : List Answer) → WritesOut before after answers → IsInTime now before → IsInTime now after
writes-time now before after answers w k = go (must_end before.stage (length (waits after)) w.is_whole) refl where
  go : (b : Bool) → must_end before.stage (length (waits after)) w.is_whole ≡ b → IsInTime now after
  go true e = ended-time now before after (w.ends e).1
  go false e = λ closes. subst (λ n. now - n < MOST_CLOSING) (sym w.still.since) (k (sym (w.stays e).1 ∙ closes))

dropped-or-time : (now : ℕ) (is_dropped : Bool) (before after : Lane) (answers : List Answer) → DropsOrWrites is_dropped before after answers → (is_dropped ≡ false → IsInTime now before) → IsInTime now after
dropped-or-time now true before after answers h k = ended-time now before after (ap (λ (l : Lane). l.stage) h.1)
dropped-or-time now false before after answers h k = writes-time now before after answers h (k refl)

-- a lane that closed for too long was dropped
says-time : (now : ℕ) (before after : Lane) (answers : List Answer) → Says now before after answers → IsInTime now after
says-time now before after answers h = go before.stage refl h where
  other : (s : Stage) → before.stage ≡ s → (s ≡ Closing → ⊥) → IsInTime now before
  other s e never_closes = not-late now before (λ closes. never_closes (sym e ∙ closes))

  go : (s : Stage) → before.stage ≡ s → SaysAt s now before after answers → IsInTime now after
  go Live e h = writes-time now before after answers h (other Live e (λ closes. cc closes))
  go Lost e h = same-time now before after h.1 (other Lost e (λ closes. cc closes))
  go Closing e h = dropped-or-time now (has_closed_long now before.since) before after answers h (λ f closes. in-time now before.since f)
  go Over e h = same-time now before after h.1 (other Over e (λ closes. cc closes))

over-time : (now : ℕ) (after : Lane) → after.stage ≡ Over → IsInTime now after
over-time now after e = not-late now after (λ closes. cc (sym e ∙ closes))

loses-time : (now : ℕ) (trace : Option Event) (before after : Lane) (heard : Option Event) → Loses trace before after heard → IsInTime now before → IsInTime now after
loses-time now (Some event) before after heard h k = same-time now before after h.1 k
loses-time now None before after heard h k = go before.stage h where
  go : (s : Stage) → LosesAt s before after heard → IsInTime now after
  go Live h = same-time now before after h.1 k
  go Lost h = over-time now after (ap (λ (l : Lane). l.stage) h.1)
  go Closing h = same-time now before after h.1 k
  go Over h = same-time now before after h.1 k

-- a live lane doesn't close
bystander-time : (now : ℕ) (before after : Lane) (answers : List Answer) → SaysIfEnded now before after answers → IsInTime now after
bystander-time now before after answers h = go before.stage refl h where
  said : (s : Stage) → before.stage ≡ s → SaysAt s now before after answers → IsInTime now after
  said s e h = says-time now before after answers (subst (λ (s : Stage). SaysAt s now before after answers) (sym e) h)

  go : (s : Stage) → before.stage ≡ s → SaysIfEndedAt s now before after answers → IsInTime now after
  go Live e h = same-time now before after h.1 (not-late now before (λ closes. cc (sym e ∙ closes)))
  go Lost e h = said Lost e h
  go Closing e h = said Closing e h
  go Over e h = said Over e h

turn-time : (now : ℕ) (trace : Option Event) (before after : Lane) (answers : List Answer) (heard : Option Event) → Unit {0} → Turns now trace before after answers heard → IsInTime now after
turn-time now (Some event) before after answers heard k h = bystander-time now before after answers h.1
turn-time now None before after answers heard k h = go before.stage refl h where
  go : (s : Stage) → before.stage ≡ s → TurnsAt s now before after answers heard → IsInTime now after
  go Live e h = by-fullness (IsInTime now) now before after answers heard
      (λ d said s. says-time now (record before { full = None }) after answers s)
      (λ s f. over-time now after (ap (λ (l : Lane). l.stage) f.2))
      (λ mid t. loses-time now t.trace t.said mid heard t.loses (says-time now t.settled t.said t.written t.says))
      h
  go Lost e h = over-time now after (ap (λ (l : Lane). l.stage) h.2)
  go Closing e h = says-time now before after answers h.1
  go Over e h = over-time now after (ap (λ (l : Lane). l.stage) h.2 ∙ e)

pub next-in-time : NextIsInTime
next-in-time wait gathering gathering_after before after answers heard h =
    let n = h.hears in
    all-leave heard.now (λ lane. Unit {0}) (IsInTime heard.now) n.begin _ after.lanes n.turns n.trace (turn-time heard.now) (λ lane has. tt) n.hears

-- ---- saying

at-within : (wire : ℕ) (Does : Lane → Lane → List Answer → Type 0) (lanes after : List Lane) (answers : List Answer) →
    ((before next : Lane) (said : List Answer) → Does before next said → IsWithin before → IsWithin next) → AtLane wire Does lanes after answers → AreWithin lanes → AreWithin after
at-within wire Does [] after answers each h k = subst (λ (l : List Lane). AreWithin l) (sym h.0) tt
at-within wire Does (lane ∷ lanes) after answers each h k = go (lane.wire == wire) h (at-within wire Does lanes) where
  go : (b : Bool) → Chooses b ((next : Lane) × (after ≡ next ∷ lanes) × Does lane next answers) ((rest : List Lane) × (after ≡ lane ∷ rest) × AtLane wire Does lanes rest answers) →
      ((rest : List Lane) (said : List Answer) → ((before next : Lane) (said : List Answer) → Does before next said → IsWithin before → IsWithin next) →
      AtLane wire Does lanes rest said → AreWithin lanes → AreWithin rest) → AreWithin after
  go true h again = subst (λ (l : List Lane). AreWithin l) (sym h.1) (each lane h.0 answers h.2 k.0, k.1)
  go false h again = subst (λ (l : List Lane). AreWithin l) (sym h.1) (k.0, again h.0 answers each h.2 k.1)

live-within : (before after : Lane) (answers : List Answer) → WritesIfLive before after answers → IsWithin before → IsWithin after
live-within before after answers h k = bystander-within 0 before after answers k (live-says 0 before after answers h)

-- so it is of a live lane however much waited
pub live-written : (before after : Lane) (answers : List Answer) → WritesIfLive before after answers → IsWithin before ⊎ (before.stage ≡ Live) → IsWithin after
live-written before after answers h (inl k) = live-within before after answers h k
live-written before after answers h (inr live) = writes-within before after answers (subst (λ (s : Stage). WritesIfLiveAt s before after answers) live h)

each-within : (wires : List ℕ) (lanes after : List Lane) (answers : List Answer) → WriteEach wires lanes after answers → AreWithin lanes → AreWithin after
each-within [] lanes after answers h k = subst (λ (l : List Lane). AreWithin l) (sym h.0) k
each-within (wire ∷ wires) lanes after answers h k = each-within wires h.0 after h.2 h.5 (at-within wire WritesIfLive lanes h.0 h.1 live-within h.4 k)

pub flushes-within : FlushesAreWithin
flushes-within before after answers h k = each-within h.flushes.wires before.lanes after.lanes answers h.flushes.writes k

pub gathers-within : (wait gathering gathering_after wait_after : ℕ) (before after : DoorState) (answers : List Answer) → Gathers wait gathering before after answers gathering_after wait_after → AreWithin before.lanes → AreWithin after.lanes
gathers-within wait gathering gathering_after wait_after before after answers (inl h) k = subst (λ (d : DoorState). AreWithin d.lanes) (sym h.1) k
gathers-within wait gathering gathering_after wait_after before after answers (inr h) k = flushes-within before after answers h.0 k

pub each-of : (lanes : List Lane) → AreWithin lanes → EachWas IsWithin lanes
each-of [] k lane has = absurd has
each-of (first ∷ lanes) k lane (inl e) = subst IsWithin e k.0
each-of (first ∷ lanes) k lane (inr has) = each-of lanes k.1 lane has

pub with-within : (now : ℕ) (wire : Option ℕ) (lanes : List Lane) → EachWas IsWithin lanes → EachWas IsWithin (with_accepted now wire (kept lanes))
with-within now None lanes were lane has = were lane (has-kept lanes lane has)
with-within now (Some wire) lanes were lane has = go (has-part (kept lanes) (new_lane now wire ∷ []) lane has) where
  go : Has (kept lanes) lane ⊎ Has (new_lane now wire ∷ []) lane → IsWithin lane
  go (inl k) = were lane (has-kept lanes lane k)
  go (inr (inl e)) = subst IsWithin e (λ there. omega arith)
  go (inr (inr k)) = absurd k

pub next-within : NextIsWithin
next-within wait gathering gathering_after before after answers heard h k =
    let n = h.hears in
    let were = each-of h.mid.lanes (gathers-within wait gathering gathering_after h.wait_after before h.mid h.first h.gathers k) in
    all-leave heard.now IsWithin IsWithin n.begin _ after.lanes n.turns n.trace (turn-within heard.now) (with-within heard.now n.wire h.mid.lanes were) n.hears

pub kept-within : (lanes : List Lane) → AreWithin lanes → AreWithin (kept lanes)
kept-within [] k = tt
kept-within (lane ∷ lanes) k = go (not (is_over lane.stage)) (kept-within lanes k.1) where
  go : (b : Bool) → AreWithin (kept lanes) → AreWithin (cond b (lane ∷ kept lanes) (kept lanes))
  go true more = (k.0, more)
  go false more = more

pub fails-within : FailsAreWithin
fails-within wait gathering before after answers h k =
    let gathered = gathers-within wait gathering h.gathering_after h.wait_after before h.mid h.first h.gathers k in
    flushes-within (record h.mid { lanes = kept h.mid.lanes }) after h.last h.flushes (kept-within h.mid.lanes gathered)

pub reply-within : (now : ℕ) (reply : Reply) (before after : Lane) (answers : List Answer) → Replies now reply before after answers → IsWithin before → IsWithin after
reply-within now reply before after answers h k = go (owes before) h where
  go : (b : Bool) → Chooses b (SaysMore (after_reply now reply before) after answers) ((answers ≡ []) × (after ≡ before)) → IsWithin after
  go true h = more-within (after_reply now reply before) after answers h
  go false h = same-within before after h.1 k

pub replies-within : RepliesAreWithin
replies-within lane now reply before after answers h k =
    at-within lane (Replies now reply) before.lanes after.lanes answers (reply-within now reply) h.0 k

pub shuts-one : (now : ℕ) (before after : Lane) (answers : List Answer) → Shuts now before after answers → IsWithin before → IsWithin after
shuts-one now before after answers h k = go (is_live before.stage) h where
  go : (b : Bool) → Chooses b (WritesOut (record before { since = now; protocol = protocol_after_shut before.protocol; stage = Closing }) after answers) ((answers ≡ []) × (after ≡ before)) → IsWithin after
  go true h = writes-within (record before { since = now; protocol = protocol_after_shut before.protocol; stage = Closing }) after answers h
  go false h = same-within before after h.1 k

pub shuts-within : ShutsAreWithin
shuts-within lane now before after answers h k = at-within lane (Shuts now) before.lanes after.lanes answers (shuts-one now) h.0 k

-- a message that isn't sent leaves what waits
unsaid : (lane next : socket.Lane) (bytes : List ℕ) (text : Bool) → sending.Says lane next bytes text false → next.out ≡ lane.out
unsaid lane next bytes text (inl h) = ap (λ (l : socket.Lane). l.out) h.1
unsaid lane next bytes text (inr h) = ap (λ (l : socket.Lane). l.out) h.3

unput : (live : Bool) (protocol : Protocol) (bytes : List ℕ) (text : Bool) (before after : Lane) → before.protocol ≡ protocol → PutsAt live protocol bytes text before after false →
    (after.stage ≡ before.stage) × (waits after ≡ waits before)
unput true (Socket websocket_state) bytes text before after e h =
    let out : h.0.out ≡ websocket_state.lane.out = unsaid websocket_state.lane h.0 bytes text h.1 in (
      ap (λ (l : Lane). l.stage) h.2,
      ap waits h.2 ∙ ap (λ (o : Written). before.out ++ o.bytes) out ∙ sym (ap (λ (t : Protocol). before.out ++ frames_of t) e),
    )
unput true (Http http_state) bytes text before after e h = (ap (λ (l : Lane). l.stage) h.1, ap waits h.1)
unput true (Response response_state) bytes text before after e h = (ap (λ (l : Lane). l.stage) h.1, ap waits h.1)
unput false protocol bytes text before after e h = (ap (λ (l : Lane). l.stage) h.1, ap waits h.1)

is-little : (n : ℕ) → is_gathered n ≡ true → n ≤ MOST_UNWRITTEN
is-little n e = grind (arith, e)

gathered-within : (before after : Lane) (answers : List Answer) → GathersOrSays before after answers → IsWithin after
gathered-within before after answers h = go (is_gathered (length (waits before))) refl h where
  go : (b : Bool) → is_gathered (length (waits before)) ≡ b → Chooses b ((answers ≡ []) × (after ≡ before)) (SaysMore before after answers) → IsWithin after
  go true e h = same-within before after h.1 (λ has. is-little (length (waits before)) e)
  go false e h = more-within before after answers h

pub send-within : (now : ℕ) (bytes : List ℕ) (text : Bool) (before after : Lane) (answers : List Answer) → Sends now bytes text before after answers → IsWithin before → IsWithin after
send-within now bytes text before after answers h k = go h.0 h.1 h.2 h.3 where
  go : (mid : Lane) (b : Bool) → Puts bytes text before mid b → SaysPut now b mid after answers → IsWithin after
  go mid true p h = subst IsWithin (sym h.2) (gathered-within mid h.0 answers h.1)
  go mid false p h =
      let u = unput (is_live before.stage) before.protocol bytes text before mid refl p in
      same-within mid after h.1 (λ has. subst (λ (l : List ℕ). length l ≤ MOST_UNWRITTEN) (sym u.1) (k (sym (ap has_wire u.0) ∙ has)))

pub sends-within : SendsAreWithin
sends-within lane now bytes text before after answers h k =
    at-within lane (Sends now bytes text) before.lanes after.lanes answers (send-within now bytes text) h.0 k
