-- In a session a live lane is full exactly if that was told last, and it is heard as drained only then.
use Rattle.std.proofs.Common.{◌≡◌, ◌==◌, ◌-◌, ◌&&◌, ◌++◌, ◌∷◌, [], ℕ, Bool, true, false, not, nat_le, if◌then◌else◌, List, Option, None, Some, refl, sym, ap, ◌∙◌, subst, inl, inr, length, is_some}
use Rattle.hw_lanes.specs.declared.http.Reply.{Reply}
use Rattle.hh_http.specs.Texts.{reply_text}
use Rattle.hw_door.specs.declared.heard.Event.{Event}
use Rattle.hw_door.specs.declared.heard.Event.TheVariants as event
use Rattle.hw_door.specs.Traffic.{Answer}
use Rattle.hw_net.specs.declared.limits.TheConstants.{MOST_DRAINED, MOST_STALLED, SWITCHING}
use Rattle.hw_net.specs.declared.full.Fullness.{Fullness}
use Rattle.hw_net.specs.declared.input.Input.{Input}
use Rattle.hw_net.specs.declared.input.Input.TheVariants as input
use Rattle.hw_net.specs.declared.protocol.Stage.{Stage}
use Rattle.hw_net.specs.declared.protocol.Stage.TheVariants.{Live, Lost, Closing, Over}
use Rattle.hw_net.specs.Door.{new_lane}
use Rattle.hw_net.specs.Lane.{Lane, waits, is_live, is_full, owes, is_overdue, after_hearing, after_reply, protocol_after_reply, protocol_after_shut, new_socket, rest_of, full_after_turn, full_after_write}
use Rattle.hw_net.specs.Saying.{WritesOut, DropsOrWrites, Says, SaysAt, SaysMore, has_closed_long, is_too_much}
use Rattle.hw_net.specs.Sessions as session
use Rattle.hw_net.specs.Sessions.{Call, is_drained_on, was_full_on, FullnessIsTold, DrainedWereFull}
use Rattle.hw_net.specs.Trace.{Chooses}
use Rattle.hw_net.specs.Turn.{Falls, Passes, Settles, Loses, LosesAt, TurnsLive, TurnsAt, Listens, Replies, Sends, Shuts}
use Rattle.hw_net.proofs.Bystanders.{SaysOrStays}
use Rattle.hw_net.proofs.Closings.{owes-live}
use Rattle.hw_net.proofs.Counting.{Lives, same-lives, writes-live, says-live, bystander-live}
use Rattle.hw_net.proofs.Fullness.{by-fullness}
use Rattle.hw_net.proofs.Moves.{ActsAt, has-of}
use Rattle.hw_net.proofs.Owed.{swapped}
use Rattle.hw_net.proofs.Owning.{is_on}
use Rattle.hw_net.proofs.Shares.{share, same}
use Rattle.hw_net.proofs.Walks.{IsHeard, Heeds, Moves, moves-wire, IsUntouched, each-lane, each-before, off-and-on, mover}

-- ---- what leaves a lane as full as it was

abbrev IsAsFull : Lane → Lane → Type 0
IsAsFull x y = is_some y.full ≡ is_some x.full

full-same : (x y : Lane) → y ≡ x → IsAsFull x y
full-same x y e = ap (λ (l : Lane). is_some l.full) e

full-written : (some : Bool) (full : Option Fullness) → is_some (full_after_write some full) ≡ is_some full
full-written some None = refl
full-written some (Some full) = refl

full-turned : (now : ℕ) (full : Option Fullness) → is_some (full_after_turn now full) ≡ is_some full
full-turned now None = refl
full-turned now (Some full) = go full.has_written (record { since = now; has_written = false; is_late = false }) (record full { is_late = nat_le MOST_STALLED (now - full.since) }) where
  go : (b : Bool) (one two : Fullness) → is_some (if b then Some one else Some two) ≡ true
  go true one two = refl
  go false one two = refl

writes-full : (x y : Lane) (mine : List Answer) → WritesOut x y mine → IsAsFull x y
writes-full x y mine w = ap (λ (o : Option Fullness). is_some o) w.full ∙ full-written _ x.full

dropped-or-full : (is_dropped : Bool) (x y : Lane) (mine : List Answer) → DropsOrWrites is_dropped x y mine → IsAsFull x y
dropped-or-full true x y mine h = ap (λ (l : Lane). is_some l.full) h.1
dropped-or-full false x y mine h = writes-full x y mine h

says-full : (now : ℕ) (x y : Lane) (mine : List Answer) → Says now x y mine → IsAsFull x y
says-full now x y mine h = go x.stage h where
  go : (s : Stage) → SaysAt s now x y mine → IsAsFull x y
  go Live h = writes-full x y mine h
  go Lost h = full-same x y h.1
  go Closing h = dropped-or-full (has_closed_long now x.since) x y mine h
  go Over h = full-same x y h.1

bystander-full : (now : ℕ) (x y : Lane) (mine : List Answer) → SaysOrStays now x y mine → IsAsFull x y
bystander-full now x y mine (inl h) = says-full now x y mine h
bystander-full now x y mine (inr h) = full-same x y h.0

more-full : (x y : Lane) (mine : List Answer) → SaysMore x y mine → IsAsFull x y
more-full x y mine h = dropped-or-full (is_too_much (length (waits x))) x y mine h

settles-full : (now : ℕ) (x y : Lane) (mine : List Answer) (what : Input) (trace : Option Event) → Settles now x y mine what trace → IsAsFull x y
settles-full now x y mine input.Nothing trace h = go (is_overdue now x) h where
  go : (b : Bool) → Chooses b (Falls x y mine trace) (Passes x y mine None trace) → IsAsFull x y
  go true h = ap (λ (l : Lane). is_some l.full) h.2
  go false h = full-same x y h.2
settles-full now x y mine (input.Request request) trace h = full-same x y h.2
settles-full now x y mine (input.Refused refusal) trace h = ap (λ (l : Lane). is_some l.full) h.2
settles-full now x y mine (input.Response status body) trace h = full-same x y h.2
settles-full now x y mine input.Upgraded trace h = ap (λ (l : Lane). is_some l.full) h.2
settles-full now x y mine (input.Message bytes) trace h = full-same x y h.2
settles-full now x y mine input.Broken trace h = ap (λ (l : Lane). is_some l.full) h.2
settles-full now x y mine input.Gone trace h = ap (λ (l : Lane). is_some l.full) h.2

loses-full : (trace : Option Event) (x y : Lane) (own : Option Event) → Loses trace x y own → IsAsFull x y
loses-full (Some here) x y own h = full-same x y h.1
loses-full None x y own h = go x.stage h where
  go : (s : Stage) → LosesAt s x y own → IsAsFull x y
  go Live h = full-same x y h.1
  go Lost h = ap (λ (l : Lane). is_some l.full) h.1
  go Closing h = full-same x y h.1
  go Over h = full-same x y h.1

live-full : (now : ℕ) (x y : Lane) (mine : List Answer) (own : Option Event) → TurnsLive now x y mine own → IsAsFull x y
live-full now x y mine own h =
    loses-full h.trace h.said y own h.loses ∙ says-full now h.settled h.said h.written h.says
    ∙ settles-full now (after_hearing h.protocol x) h.settled h.shut h.input h.trace h.settles

-- ---- turns

abbrev is_drained_in : ℕ → Option Event → Bool
is_drained_in wire None = false
is_drained_in wire (Some trace) = is_drained_on wire trace

settles-undrained : (wire now : ℕ) (x y : Lane) (mine : List Answer) (what : Input) (trace : Option Event) → Settles now x y mine what trace → is_drained_in wire trace ≡ false
settles-undrained wire now x y mine input.Nothing trace h = go (is_overdue now x) h where
  go : (b : Bool) → Chooses b (Falls x y mine trace) (Passes x y mine None trace) → is_drained_in wire trace ≡ false
  go true h = ap (λ o. is_drained_in wire o) h.1
  go false h = ap (λ o. is_drained_in wire o) h.1
settles-undrained wire now x y mine (input.Request request) trace h = ap (λ o. is_drained_in wire o) h.1
settles-undrained wire now x y mine (input.Refused refusal) trace h = ap (λ o. is_drained_in wire o) h.1
settles-undrained wire now x y mine (input.Response status body) trace h = ap (λ o. is_drained_in wire o) h.1
settles-undrained wire now x y mine input.Upgraded trace h = ap (λ o. is_drained_in wire o) h.1
settles-undrained wire now x y mine (input.Message bytes) trace h = ap (λ o. is_drained_in wire o) h.1
settles-undrained wire now x y mine input.Broken trace h = ap (λ o. is_drained_in wire o) h.1
settles-undrained wire now x y mine input.Gone trace h = ap (λ o. is_drained_in wire o) h.1

loses-undrained : (wire : ℕ) (trace : Option Event) (x y : Lane) (own : Option Event) → Loses trace x y own → is_drained_in wire trace ≡ false → is_drained_in wire own ≡ false
loses-undrained wire (Some here) x y own h e = ap (λ o. is_drained_in wire o) h.0 ∙ e
loses-undrained wire None x y own h e = go x.stage h where
  go : (s : Stage) → LosesAt s x y own → is_drained_in wire own ≡ false
  go Live h = ap (λ o. is_drained_in wire o) h.0
  go Lost h = ap (λ o. is_drained_in wire o) h.0
  go Closing h = ap (λ o. is_drained_in wire o) h.0
  go Over h = ap (λ o. is_drained_in wire o) h.0

live-undrained : (wire now : ℕ) (x y : Lane) (mine : List Answer) (own : Option Event) → TurnsLive now x y mine own → is_drained_in wire own ≡ false
live-undrained wire now x y mine own h =
    loses-undrained wire h.trace h.said y own h.loses (settles-undrained wire now (after_hearing h.protocol x) h.settled h.shut h.input h.trace h.settles)

-- a lane that is live was so before, and is as full, unless it was heard as drained
abbrev FullAfter : Lane → Lane → Bool → Type 0
FullAfter x y drained = is_live y.stage ≡ true → (is_live x.stage ≡ true) × (is_some y.full ≡ (not drained && is_some x.full))

lives-full : (x y : Lane) (drained : Bool) → Lives x y → IsAsFull x y → drained ≡ false → FullAfter x y drained
lives-full x y drained l f e live = ((l live).0, f ∙ ap (λ b. not b && is_some x.full) (sym e))

listens-full : (now : ℕ) (x y : Lane) (mine : List Answer) (own : Option Event) → Listens now x y mine own → FullAfter x y (is_drained_in x.wire own)
listens-full now x y mine own h = go x.stage refl h where
  drains : own ≡ Some (event.Drained x.wire) → (not (is_drained_in x.wire own) && is_some x.full) ≡ false
  drains f = ap (λ o. not (is_drained_in x.wire o) && is_some x.full) f ∙ ap (λ b. not b && is_some x.full) (same x.wire)

  go : (s : Stage) → x.stage ≡ s → TurnsAt s now x y mine own → FullAfter x y (is_drained_in x.wire own)
  go Live e h = by-fullness (λ (l : Lane). FullAfter x l (is_drained_in x.wire own)) now x y mine own
      (λ d f s live. (ap is_live e, says-full now (record x { full = None }) y mine s ∙ sym (drains f)))
      (λ s f live. absurd (cc (sym (ap (λ (l : Lane). is_live l.stage) f.2) ∙ live)))
      (λ mid t live. (ap is_live e, full-turned now mid.full ∙ live-full now x mid mine own t ∙ ap (λ b. not b && is_some x.full) (sym (live-undrained x.wire now x mid mine own t))))
      h
  go Lost e h = λ live. absurd (cc (sym (ap (λ (l : Lane). is_live l.stage) h.2) ∙ live))
  go Closing e h = lives-full x y (is_drained_in x.wire own) (says-live now x y mine h.1) (says-full now x y mine h.1) (ap (λ o. is_drained_in x.wire o) h.0)
  go Over e h = lives-full x y (is_drained_in x.wire own) (same-lives x y h.2) (full-same x y h.2) (ap (λ o. is_drained_in x.wire o) h.1)

unheard-drained : (wire : ℕ) (what : Event) → is_on wire what ≡ false → is_drained_on wire what ≡ false
unheard-drained wire (event.Request at request) h = refl
unheard-drained wire (event.Refused at refusal) h = refl
unheard-drained wire (event.Bytes at bytes) h = refl
unheard-drained wire (event.Response at status body) h = refl
unheard-drained wire (event.Upgraded at) h = refl
unheard-drained wire (event.Lost at) h = refl
unheard-drained wire (event.Drained at) h = h
unheard-drained wire event.Quiet h = refl

heard-drained : (wire : ℕ) (own : Option Event) (what : Event) → IsHeard wire own what → is_drained_on wire what ≡ is_drained_in wire own
heard-drained wire None what h = unheard-drained wire what h
heard-drained wire (Some trace) what h = ap (λ v. is_drained_on wire v) h

heeds-full : (now : ℕ) (what : Event) (x y : Lane) (mine : List Answer) → Heeds now what x y mine → FullAfter x y (is_drained_on x.wire what)
heeds-full now what x y mine (inl h) = subst (λ b. FullAfter x y b) (sym (heard-drained x.wire h.0 what h.2)) (listens-full now x y mine h.0 h.1)
heeds-full now what x y mine (inr h) = lives-full x y (is_drained_on x.wire what) (bystander-live now x y mine h.0) (bystander-full now x y mine h.0) (unheard-drained x.wire what h.1)

-- ---- saying

replied-full : (now : ℕ) (reply : Reply) (x : Lane) → IsAsFull x (after_reply now reply x)
replied-full now reply x = go (reply.status == SWITCHING) where
  go : (b : Bool) → is_some (if b then record x { protocol = new_socket (rest_of x.protocol); out = x.out ++ reply_text reply }
      else record x { protocol = protocol_after_reply x.protocol; out = x.out ++ reply_text reply; since = now }).full ≡ is_some x.full
  go true = refl
  go false = refl

replies-full : (now : ℕ) (reply : Reply) (x y : Lane) (mine : List Answer) → Replies now reply x y mine → FullAfter x y false
replies-full now reply x y mine h = go (owes x) refl h where
  go : (b : Bool) → owes x ≡ b → Chooses b (SaysMore (after_reply now reply x) y mine) ((mine ≡ []) × (y ≡ x)) → FullAfter x y false
  go true e h = λ live. (owes-live x e, more-full (after_reply now reply x) y mine h ∙ replied-full now reply x)
  go false e h = lives-full x y false (same-lives x y h.1) (full-same x y h.1) refl

-- a lane that was shut isn't live
shuts-full : (now : ℕ) (x y : Lane) (mine : List Answer) → Shuts now x y mine → FullAfter x y false
shuts-full now x y mine h = go (is_live x.stage) h where
  go : (b : Bool) → Chooses b (WritesOut (record x { since = now; protocol = protocol_after_shut x.protocol; stage = Closing }) y mine) ((mine ≡ []) × (y ≡ x)) → FullAfter x y false
  go true h = λ live. absurd (cc ((writes-live (record x { since = now; protocol = protocol_after_shut x.protocol; stage = Closing }) y mine h live).0))
  go false h = lives-full x y false (same-lives x y h.1) (full-same x y h.1) refl

at-full : (wire : ℕ) (Does : Lane → Lane → List Answer → Type 0) (x y : Lane) (mine : List Answer) → (Does x y mine → FullAfter x y false) → ActsAt wire Does x y mine → FullAfter x y false
at-full wire Does x y mine each h = go (x.wire == wire) h where
  go : (b : Bool) → Chooses b (Does x y mine) ((y ≡ x) × (mine ≡ [])) → FullAfter x y false
  go true h = each h
  go false h = lives-full x y false (same-lives x y h.0) (full-same x y h.0) refl

-- ---- sessions

-- a live lane is as full as was told
abbrev pub IsTold : List Call → Lane → Type 0
IsTold calls lane = is_live lane.stage ≡ true → is_some lane.full ≡ was_full_on lane.wire calls

told-still : (calls : List Call) (x y : Lane) → IsTold calls x → FullAfter x y false → is_live y.stage ≡ true → is_some y.full ≡ was_full_on x.wire calls
told-still calls x y k f live = let was = f live in was.1 ∙ k was.0

told-here : (call : Call) (calls : List Call) (x y : Lane) → IsTold calls x → Moves call x y → is_live y.stage ≡ true → is_some y.full ≡ was_full_on x.wire (call ∷ calls)
told-here (session.heard what answers) calls x y k h live =
    let was = heeds-full what.now what.event x y (share x.wire answers) h live in
    was.1 ∙ ap (λ b. not (is_drained_on x.wire what.event) && b) (k was.0)
told-here (session.replied at reply answers) calls x y k h live =
    told-still calls x y k (at-full at (Replies h.0 reply) x y (share x.wire answers) (replies-full h.0 reply x y (share x.wire answers)) h.1) live
told-here (session.sent at bytes text full answers) calls x y k h live =
    go (x.wire == at) h.1 h.2 ∙ ap (λ b. if b then full else was_full_on x.wire calls) (swapped x.wire at) where
      go : (b : Bool) → Chooses b (Sends h.0 bytes text x y (share x.wire answers)) ((y ≡ x) × (share x.wire answers ≡ [])) → (b ≡ true → full ≡ is_full y) →
          is_some y.full ≡ (if b then full else was_full_on x.wire calls)
      go true s told = sym (told refl ∙ ap (λ b. b && is_some y.full) live)
      go false s told = told-still calls x y k (lives-full x y false (same-lives x y s.0) (full-same x y s.0) refl) live
told-here (session.shut at answers) calls x y k h live =
    told-still calls x y k (at-full at (Shuts h.0) x y (share x.wire answers) (shuts-full h.0 x y (share x.wire answers)) h.1) live
told-here (session.wrote at answers) calls x y k h live =
    told-still calls x y k (lives-full x y false (bystander-live 0 x y (share x.wire answers) h) (bystander-full 0 x y (share x.wire answers) h) refl) live

pub step-told : (call : Call) (calls : List Call) (x y : Lane) → IsTold calls x → Moves call x y → IsTold (call ∷ calls) y
step-told call calls x y k h live = told-here call calls x y k h live ∙ ap (λ n. was_full_on n (call ∷ calls)) (sym (moves-wire call x y h))

new-told : (calls : List Call) (now wire : ℕ) → IsUntouched wire calls → IsTold calls (new_lane now wire)
new-told calls now wire h live = sym h.full

pub fullness-is-told : FullnessIsTold
fullness-is-told calls bound now h lane has live =
    ap (λ b. b && is_some lane.full) live ∙ each-lane IsTold new-told step-told calls bound now h lane (has-of now.lanes lane has) live

-- ---- a lane that is heard as drained

-- it is live, and full
abbrev pub WasFull : Lane → Type 0
WasFull x = (is_live x.stage ≡ true) × (is_some x.full ≡ true)

drained-full : (live full little : Bool) → (live && (full && little)) ≡ true → (live ≡ true) × (full ≡ true)
drained-full true true little e = (refl, refl)
drained-full true false little e = absurd (cc e)
drained-full false full little e = absurd (cc e)

listens-drained : (now : ℕ) (x y : Lane) (mine : List Answer) (own : Option Event) → is_drained_in x.wire own ≡ true → Listens now x y mine own → WasFull x
listens-drained now x y mine own drained h = go x.stage h where
  never : is_drained_in x.wire own ≡ false → WasFull x
  never e = absurd (cc (sym e ∙ drained))

  go : (s : Stage) → TurnsAt s now x y mine own → WasFull x
  go Live h = by-fullness (λ (l : Lane). WasFull x) now x y mine own
      (λ d f s. drained-full (is_live x.stage) (is_some x.full) (nat_le (length (waits x)) MOST_DRAINED) d)
      (λ s f. never (ap (λ o. is_drained_in x.wire o) f.1))
      (λ mid t. never (live-undrained x.wire now x mid mine own t))
      h
  go Lost h = never (ap (λ o. is_drained_in x.wire o) h.1)
  go Closing h = never (ap (λ o. is_drained_in x.wire o) h.0)
  go Over h = never (ap (λ o. is_drained_in x.wire o) h.1)

pub heeds-drained : (now : ℕ) (what : Event) (x y : Lane) (mine : List Answer) → what ≡ event.Drained x.wire → Heeds now what x y mine → WasFull x
heeds-drained now what x y mine e (inl h) =
    listens-drained now x y mine h.0 (sym (heard-drained x.wire h.0 what h.2) ∙ ap (λ v. is_drained_on x.wire v) e ∙ same x.wire) h.1
heeds-drained now what x y mine e (inr h) = absurd (off-and-on (is_on x.wire what) h.1 (ap (λ v. is_on x.wire v) e ∙ same x.wire))

pub drained-were-full : DrainedWereFull
drained-were-full what answers calls bound now h lane e =
    let m = mover what answers calls bound now h lane (ap (λ v. is_on lane v) e ∙ same lane) in
    let x = m.0 in
    let told : IsTold calls x = each-before IsTold new-told step-told (session.heard what answers) calls bound now h x m.2 in
    let was = heeds-drained what.now what.event x m.1 (share x.wire answers) (e ∙ ap (λ n. event.Drained n) (sym m.4)) m.5 in
    subst (λ n. was_full_on n calls ≡ true) m.4 (sym (told was.0) ∙ was.1)
