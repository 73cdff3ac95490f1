-- In a session a wire is shut once, for a cause, and then its lane does nothing on it.
use Rattle.std.proofs.Common.{◌≡◌, ◌⊎◌, ◌==◌, ◌&&◌, ◌||◌, ◌++◌, ◌∷◌, [], ℕ, Bool, true, false, not, if◌then◌else◌, List, Option, None, Some, refl, sym, ap, ◌∙◌, subst, inl, inr, length, Contains}
use Rattle.hw_lanes.specs.declared.http.Reply.{Reply}
use Rattle.hh_http.specs.Texts.{reply_text}
use Rattle.hw_door.specs.declared.heard.Event.{Event}
use Rattle.hw_door.specs.declared.heard.Event.TheVariants as event
use Rattle.hw_door.specs.Traffic.{Answer, was_shut}
use Rattle.hw_net.specs.declared.limits.TheConstants.{SWITCHING}
use Rattle.hw_net.specs.declared.input.Input.{Input}
use Rattle.hw_net.specs.declared.input.Input.TheVariants as input
use Rattle.hw_net.specs.declared.protocol.Protocol.{Protocol}
use Rattle.hw_net.specs.declared.protocol.Protocol.TheVariants.{Http, Response, Socket}
use Rattle.hw_net.specs.declared.protocol.Stage.{Stage}
use Rattle.hw_net.specs.declared.protocol.Stage.TheVariants.{Live, Lost, Closing, Over}
use Rattle.hw_net.specs.Bounds.{has_wire}
use Rattle.hw_net.specs.Door.{DoorState, new_lane}
use Rattle.hw_net.specs.Lane.{Lane, waits, is_live, is_busy, owes, is_overdue, after_end, after_reply, protocol_after_shut, protocol_after_reply, new_socket, rest_of, after_hearing}
use Rattle.hw_net.specs.Saying.{WritesOut, DropsOrWrites, Says, SaysAt, SaysMore, GathersOrSays, must_end, has_closed_long, is_too_much}
use Rattle.hw_net.specs.Sessions as session
use Rattle.hw_net.specs.Sessions.{Call, Session, answers_in, answers_of, is_about, are_about, was_shut_in, came_in, is_end_on, is_done_on, LanesHaveWires, WiresAreShutOnce, WiresAreShutForACause}
use Rattle.hw_net.specs.Trace.{Chooses}
use Rattle.hw_net.specs.Turn.{Falls, Passes, Settles, Loses, LosesAt, TurnsLive, TurnsAt, Listens, Replies, Puts, PutsAt, Sends, Shuts}
use Rattle.hw_net.proofs.Bystanders.{SaysOrStays, Stays, gathered-says}
use Rattle.hw_net.proofs.Ends.{Ends, writes-end, hears-unshut, writes-unshut, one-shut, dropped-or-end}
use Rattle.hw_net.proofs.Fullness.{by-fullness, SaysPut}
use Rattle.hw_net.proofs.Moves.{Has, Without, has-of, contains-of}
use Rattle.hw_net.proofs.Numbering.{replied-wire, put-wire}
use Rattle.hw_net.proofs.Owed.{by-number}
use Rattle.hw_net.proofs.Owning.{is_on, settles-keeps, says-keeps}
use Rattle.hw_net.proofs.Shares.{share, shut-append, shut-share, shut-skip, same}
use Rattle.hw_net.proofs.Walks.{IsHeard, Heeds, Moves, moves-wire, IsUntouched, steps-in, each-come, before-come, mover-came, find, off-and-on}

-- ---- answers, of which a shut is the last

-- once the wire was shut no answer is about it
abbrev pub ShutLast : ℕ → List Answer → Type 0
ShutLast wire [] = Unit {0}
ShutLast wire (answer ∷ answers) = (was_shut_in wire (answer ∷ []) ≡ true → are_about wire answers ≡ false) × ShutLast wire answers

or-left : (a b : Bool) → (a || b) ≡ false → a ≡ false
or-left true b e = e
or-left false b e = refl

or-right : (a b : Bool) → (a || b) ≡ false → b ≡ false
or-right true b e = absurd (cc e)
or-right false b e = e

or-assoc : (a b c : Bool) → ((a || b) || c) ≡ (a || (b || c))
or-assoc true b c = refl
or-assoc false b c = refl

neither : (a b : Bool) → a ≡ false → b ≡ false → (a || b) ≡ false
neither a b e f = ap (λ c. c || b) e ∙ f

pub or-true : (a : Bool) → (a || true) ≡ true
or-true true = refl
or-true false = refl

pub or-false : (a : Bool) → (a || false) ≡ a
or-false true = refl
or-false false = refl

about-append : (w : ℕ) (xs ys : List Answer) → are_about w (xs ++ ys) ≡ (are_about w xs || are_about w ys)
about-append w [] ys = refl
about-append w (x ∷ xs) ys = ap (λ b. is_about w x || b) (about-append w xs ys) ∙ sym (or-assoc (is_about w x) (are_about w xs) (are_about w ys))

pub about-share : (w : ℕ) (xs : List Answer) → are_about w xs ≡ are_about w (share w xs)
about-share w [] = refl
about-share w (x ∷ xs) = go (is_about w x) refl (about-share w xs) where
  go : (b : Bool) → is_about w x ≡ b → are_about w xs ≡ are_about w (share w xs) → (is_about w x || are_about w xs) ≡ are_about w (if b then x ∷ share w xs else share w xs)
  go true e k = ap (λ b. is_about w x || b) k
  go false e k = ap (λ b. b || are_about w xs) e ∙ k

unshut-last : (w : ℕ) (xs : List Answer) → was_shut_in w xs ≡ false → ShutLast w xs
unshut-last w [] e = tt
unshut-last w (x ∷ xs) e =
    let both : (was_shut_in w (x ∷ []) || was_shut_in w xs) ≡ false = sym (shut-append w (x ∷ []) xs) ∙ e in
    (λ h. absurd (cc (sym (or-left (was_shut_in w (x ∷ [])) (was_shut_in w xs) both) ∙ h)), unshut-last w xs (or-right (was_shut_in w (x ∷ [])) (was_shut_in w xs) both))

pub last-append : (w : ℕ) (xs ys : List Answer) → ShutLast w xs → ShutLast w ys → (was_shut_in w xs ≡ true → are_about w ys ≡ false) → ShutLast w (xs ++ ys)
last-append w [] ys h k then_none = k
last-append w (x ∷ xs) ys h k then_none = (
  λ shut. about-append w xs ys ∙ neither (are_about w xs) (are_about w ys) (h.0 shut) (then_none (shut-append w (x ∷ []) xs ∙ ap (λ b. b || was_shut_in w xs) shut)),
  last-append w xs ys h.1 k (λ shut. then_none (shut-append w (x ∷ []) xs ∙ ap (λ b. was_shut_in w (x ∷ []) || b) shut ∙ or-true (was_shut_in w (x ∷ [])))),
)

pub last-share : (w : ℕ) (xs : List Answer) → ShutLast w (share w xs) → ShutLast w xs
last-share w [] h = tt
last-share w (x ∷ xs) h = go (is_about w x) refl h (λ k. last-share w xs k) where
  go : (b : Bool) → is_about w x ≡ b → ShutLast w (if b then x ∷ share w xs else share w xs) → (ShutLast w (share w xs) → ShutLast w xs) → ShutLast w (x ∷ xs)
  go true e h again = (λ shut. about-share w xs ∙ h.0 shut, again h.1)
  go false e h again = (λ shut. absurd (cc (sym (shut-skip w x [] e) ∙ shut)), again h)

pub none-after : (w : ℕ) (before after : List Answer) → ShutLast w (before ++ was_shut w ∷ after) → are_about w after ≡ false
none-after w [] after h = h.0 (one-shut w)
none-after w (x ∷ before) after h = none-after w before after h.1

pub none-before : (w : ℕ) (before after : List Answer) → ShutLast w (before ++ was_shut w ∷ after) → was_shut_in w before ≡ false
none-before w [] after h = refl
none-before w (x ∷ before) after h = go (was_shut_in w (x ∷ [])) refl (none-before w before after h.1) where
  there : are_about w (before ++ was_shut w ∷ after) ≡ true
  there = about-append w before (was_shut w ∷ after) ∙ ap (λ b. are_about w before || (b || are_about w after)) (same w) ∙ or-true (are_about w before)

  go : (b : Bool) → was_shut_in w (x ∷ []) ≡ b → was_shut_in w before ≡ false → was_shut_in w (x ∷ before) ≡ false
  go true e k = absurd (cc (sym (h.0 e) ∙ there))
  go false e k = shut-append w (x ∷ []) before ∙ neither (was_shut_in w (x ∷ [])) (was_shut_in w before) e k

-- ---- what becomes of a lane in a call

-- its loss or refusal was heard, or it was shut by the caller
abbrev pub is_done : Stage → Bool
is_done Live = false
is_done Lost = false
is_done Closing = true
is_done Over = true

-- its wire was shut or not, which is the last that is done on it; nothing is if it was shut before; and it is done only if it was, or by this, and if it was
pub record Closes (wire : ℕ) (before after : Stage) (mine : List Answer) (ended : Bool) : Type 0 where
  pub ends : ((was_shut_in wire mine ≡ true) × (has_wire after ≡ false)) ⊎ ((was_shut_in wire mine ≡ false) × (has_wire after ≡ has_wire before))
  pub last : ShutLast wire mine
  pub none : has_wire before ≡ false → mine ≡ []
  pub done : is_done after ≡ true → (is_done before ≡ true) ⊎ (ended ≡ true)
  pub stays : is_done before ≡ true → is_done after ≡ true

-- a lane that is done isn't live
pub undone-live : {A : Type 0} (s : Stage) → is_live s ≡ true → is_done s ≡ true → A
undone-live Live e d = absurd (cc d)
undone-live Lost e d = absurd (cc d)
undone-live Closing e d = absurd (cc e)
undone-live Over e d = absurd (cc e)

no-wire : (s : Stage) → has_wire (after_end s) ≡ false
no-wire Live = refl
no-wire Lost = refl
no-wire Closing = refl
no-wire Over = refl

end-done : (s : Stage) → is_done (after_end s) ≡ is_done s
end-done Live = refl
end-done Lost = refl
end-done Closing = refl
end-done Over = refl

-- of a lane that ended after its writes, or stayed as it was
by-ends : (wire : ℕ) (before after : Stage) (mine : List Answer) → Ends wire before after mine → ShutLast wire mine → (has_wire before ≡ false → mine ≡ []) → Closes wire before after mine false
by-ends wire before after mine (inl e) last none = record {
  ends = inl (e.0, ap has_wire e.1 ∙ no-wire before);
  last = last;
  none = none;
  done = λ d. inl (sym (ap is_done e.1 ∙ end-done before) ∙ d);
  stays = λ d. ap is_done e.1 ∙ end-done before ∙ d;
}
by-ends wire before after mine (inr e) last none = record {
  ends = inr (e.0, ap has_wire e.1);
  last = last;
  none = none;
  done = λ d. inl (sym (ap is_done e.1) ∙ d);
  stays = λ d. ap is_done e.1 ∙ d;
}

-- nothing is done
idles : (wire : ℕ) (before after : Stage) (mine : List Answer) → mine ≡ [] → after ≡ before → Closes wire before after mine false
idles wire before after mine e f =
    by-ends wire before after mine (inr (ap (λ l. was_shut_in wire l) e, f)) (subst (λ (l : List Answer). ShutLast wire l) (sym e) tt) (λ h. e)

shut-alone : (wire : ℕ) → ShutLast wire (was_shut wire ∷ [])
shut-alone wire = (λ h. refl, tt)

writes-last : (x y : Lane) (mine : List Answer) → WritesOut x y mine → ShutLast x.wire mine
writes-last x y mine w = go (must_end x.stage (length (waits y)) w.is_whole) refl where
  unshut : was_shut_in x.wire w.sent ≡ false
  unshut = writes-unshut x.wire x.wire (waits x) w.sent (waits y) w.is_whole w.writes

  go : (b : Bool) → must_end x.stage (length (waits y)) w.is_whole ≡ b → ShutLast x.wire mine
  go true e = subst (λ (l : List Answer). ShutLast x.wire l) (sym (w.ends e).0)
      (last-append x.wire w.sent (was_shut x.wire ∷ []) (unshut-last x.wire w.sent unshut) (shut-alone x.wire) (λ h. absurd (cc (sym unshut ∙ h))))
  go false e = subst (λ (l : List Answer). ShutLast x.wire l) (sym (w.stays e).0) (unshut-last x.wire w.sent unshut)

-- a lane that writes has its wire
writes-close : (x y : Lane) (mine : List Answer) → has_wire x.stage ≡ true → WritesOut x y mine → Closes x.wire x.stage y.stage mine false
writes-close x y mine has w = by-ends x.wire x.stage y.stage mine (writes-end x y mine w) (writes-last x y mine w) (λ h. absurd (cc (sym h ∙ has)))

dropped-or-close : (is_dropped : Bool) (x y : Lane) (mine : List Answer) → has_wire x.stage ≡ true → DropsOrWrites is_dropped x y mine → Closes x.wire x.stage y.stage mine false
dropped-or-close is_dropped x y mine has h = by-ends x.wire x.stage y.stage mine (dropped-or-end is_dropped x y mine h) (go is_dropped h) (λ k. absurd (cc (sym k ∙ has))) where
  go : (b : Bool) → DropsOrWrites b x y mine → ShutLast x.wire mine
  go true h = subst (λ (l : List Answer). ShutLast x.wire l) (sym h.0) (shut-alone x.wire)
  go false h = writes-last x y mine h

says-close : (now : ℕ) (x y : Lane) (mine : List Answer) → Says now x y mine → Closes x.wire x.stage y.stage mine false
says-close now x y mine h = go x.stage refl h where
  go : (s : Stage) → x.stage ≡ s → SaysAt s now x y mine → Closes x.wire x.stage y.stage mine false
  go Live e h = writes-close x y mine (ap has_wire e) h
  go Lost e h = idles x.wire x.stage y.stage mine h.0 (ap (λ (l : Lane). l.stage) h.1)
  go Closing e h = dropped-or-close (has_closed_long now x.since) x y mine (ap has_wire e) h
  go Over e h = idles x.wire x.stage y.stage mine h.0 (ap (λ (l : Lane). l.stage) h.1)

more-close : (x y : Lane) (mine : List Answer) → has_wire x.stage ≡ true → SaysMore x y mine → Closes x.wire x.stage y.stage mine false
more-close x y mine has h = dropped-or-close (is_too_much (length (waits x))) x y mine has h

bystander-close : (now : ℕ) (x y : Lane) (mine : List Answer) → SaysOrStays now x y mine → Closes x.wire x.stage y.stage mine false
bystander-close now x y mine (inl h) = says-close now x y mine h
bystander-close now x y mine (inr h) = idles x.wire x.stage y.stage mine h.1 (ap (λ (l : Lane). l.stage) h.0)

gathered-close : (x y : Lane) (mine : List Answer) → has_wire x.stage ≡ true → GathersOrSays x y mine → Closes x.wire x.stage y.stage mine false
gathered-close x y mine has h = go (gathered-says x y mine h) where
  go : SaysMore x y mine ⊎ Stays x y mine → Closes x.wire x.stage y.stage mine false
  go (inl k) = more-close x y mine has k
  go (inr k) = idles x.wire x.stage y.stage mine k.1 (ap (λ (l : Lane). l.stage) k.0)

-- ---- turns

abbrev ends_in : ℕ → Option Event → Bool
ends_in wire None = false
ends_in wire (Some trace) = is_end_on wire trace

-- what the input comes to: the wire is shut, and the lane is over; or it isn't, and the lane has its wire
abbrev Settled : ℕ → Stage → List Answer → Option Event → Type 0
Settled wire after shut trace =
    ((shut ≡ was_shut wire ∷ []) × (after ≡ Over) × (ends_in wire trace ≡ true))
    ⊎ ((shut ≡ []) × (has_wire after ≡ true) × (is_done after ≡ true → ends_in wire trace ≡ true) × (ends_in wire trace ≡ true → is_done after ≡ true))

falls-settled : (x after : Lane) (shut : List Answer) (trace : Option Event) → Falls x after shut trace → Settled x.wire after.stage shut trace
falls-settled x after shut trace h = inl (h.0, ap (λ (l : Lane). l.stage) h.2, ap (λ o. ends_in x.wire o) h.1 ∙ same x.wire)

passes-settled : (wire : ℕ) (mid after : Lane) (shut : List Answer) (trace heard : Option Event) → has_wire mid.stage ≡ true → (is_done mid.stage ≡ true → ends_in wire trace ≡ true) →
    (ends_in wire trace ≡ true → is_done mid.stage ≡ true) → Passes mid after shut trace heard →
    Settled wire after.stage shut heard
passes-settled wire mid after shut trace heard has done over h = inr (
  h.0,
  ap (λ (l : Lane). has_wire l.stage) h.2 ∙ has,
  λ d. ap (λ o. ends_in wire o) h.1 ∙ done (sym (ap (λ (l : Lane). is_done l.stage) h.2) ∙ d),
  λ t. ap (λ (l : Lane). is_done l.stage) h.2 ∙ over (sym (ap (λ o. ends_in wire o) h.1) ∙ t),
)

settles-settled : (now : ℕ) (x after : Lane) (shut : List Answer) (what : Input) (trace : Option Event) → x.stage ≡ Live → Settles now x after shut what trace → Settled x.wire after.stage shut trace
settles-settled now x after shut what trace live s = go what s where
  has : has_wire x.stage ≡ true
  has = ap has_wire live

  undone : {A : Type 0} → is_done x.stage ≡ true → A
  undone d = absurd (cc (sym (ap is_done live) ∙ d))

  nothing : (b : Bool) → Chooses b (Falls x after shut trace) (Passes x after shut None trace) → Settled x.wire after.stage shut trace
  nothing true f = falls-settled x after shut trace f
  nothing false f = passes-settled x.wire x after shut None trace has (λ d. undone d) (λ t. absurd (cc t)) f

  go : (what : Input) → Settles now x after shut what trace → Settled x.wire after.stage shut trace
  go input.Nothing s = nothing (is_overdue now x) s
  go (input.Request request) s = passes-settled x.wire x after shut _ trace has (λ d. undone d) (λ t. absurd (cc t)) s
  go (input.Refused refusal) s = passes-settled x.wire _ after shut _ trace refl (λ d. same x.wire) (λ t. refl) s
  go (input.Response status body) s = passes-settled x.wire x after shut _ trace has (λ d. undone d) (λ t. absurd (cc t)) s
  go input.Upgraded s = passes-settled x.wire _ after shut _ trace has (λ d. undone d) (λ t. absurd (cc t)) s
  go (input.Message bytes) s = passes-settled x.wire x after shut _ trace has (λ d. undone d) (λ t. absurd (cc t)) s
  go input.Broken s = falls-settled x after shut trace s
  go input.Gone s = passes-settled x.wire _ after shut _ trace refl (λ d. same x.wire) (λ t. refl) s

-- the loss of a lane whose wire was shut is heard
loses-close : (wire : ℕ) (trace : Option Event) (said y : Lane) (own : Option Event) → said.wire ≡ wire → Loses trace said y own →
    (has_wire y.stage ≡ has_wire said.stage) × (is_done y.stage ≡ true → (is_done said.stage ≡ true) ⊎ (ends_in wire own ≡ true)) × (ends_in wire trace ≡ true → ends_in wire own ≡ true)
loses-close wire (Some here) said y own e h =
    (ap (λ (l : Lane). has_wire l.stage) h.1, λ d. inl (sym (ap (λ (l : Lane). is_done l.stage) h.1) ∙ d), λ t. ap (λ o. ends_in wire o) h.0 ∙ t)
loses-close wire None said y own e h = go said.stage refl h where
  stays : y ≡ said → (has_wire y.stage ≡ has_wire said.stage) × (is_done y.stage ≡ true → (is_done said.stage ≡ true) ⊎ (ends_in wire own ≡ true)) × (false ≡ true → ends_in wire own ≡ true)
  stays f = (ap (λ (l : Lane). has_wire l.stage) f, λ d. inl (sym (ap (λ (l : Lane). is_done l.stage) f) ∙ d), λ t. absurd (cc t))

  go : (s : Stage) → said.stage ≡ s → LosesAt s said y own → (has_wire y.stage ≡ has_wire said.stage) × (is_done y.stage ≡ true → (is_done said.stage ≡ true) ⊎ (ends_in wire own ≡ true)) × (false ≡ true → ends_in wire own ≡ true)
  go Live s h = stays h.1
  go Lost s h = (
    ap (λ (l : Lane). has_wire l.stage) h.1 ∙ sym (ap has_wire s),
    λ d. inr (ap (λ o. ends_in wire o) h.0 ∙ ap (λ n. n == wire) e ∙ same wire),
    λ t. absurd (cc t),
  )
  go Closing s h = stays h.1
  go Over s h = stays h.1

live-close : (now : ℕ) (x y : Lane) (mine : List Answer) (own : Option Event) → x.stage ≡ Live → TurnsLive now x y mine own → Closes x.wire x.stage y.stage mine (ends_in x.wire own)
live-close now x y mine own live h = go (settles-settled now mid h.settled h.shut h.input h.trace live h.settles) where
  mid : Lane
  mid = after_hearing h.protocol x

  w : ℕ
  w = x.wire

  unread : was_shut_in x.wire h.read ≡ false
  unread = hears-unshut x.wire x.wire x.protocol h.protocol h.read h.input h.hears

  kept : h.settled.wire ≡ x.wire
  kept = (settles-keeps now (after_hearing h.protocol x) h.settled h.shut h.input h.trace h.settles).0.0

  said : Closes x.wire h.settled.stage h.said.stage h.written false
  said = subst (λ n. Closes n h.settled.stage h.said.stage h.written false) kept (says-close now h.settled h.said h.written h.says)

  lost : (has_wire y.stage ≡ has_wire h.said.stage) × (is_done y.stage ≡ true → (is_done h.said.stage ≡ true) ⊎ (ends_in x.wire own ≡ true)) × (ends_in x.wire h.trace ≡ true → ends_in x.wire own ≡ true)
  lost = loses-close x.wire h.trace h.said y own ((says-keeps now h.settled h.said h.written h.says).0 ∙ kept) h.loses

  has : has_wire x.stage ≡ true
  has = ap has_wire live

  -- all answers, of which the shut ones are these
  ended : (rest : List Answer) → h.shut ++ h.written ≡ rest → mine ≡ h.read ++ rest
  ended rest e = h.all ∙ ap (λ l. h.read ++ l) e

  shuts : (rest : List Answer) → mine ≡ h.read ++ rest → was_shut_in x.wire mine ≡ was_shut_in x.wire rest
  shuts rest e = ap (λ l. was_shut_in x.wire l) e ∙ shut-append x.wire h.read rest ∙ ap (λ b. b || was_shut_in x.wire rest) unread

  lasts : (rest : List Answer) → mine ≡ h.read ++ rest → ShutLast x.wire rest → ShutLast x.wire mine
  lasts rest e l = subst (λ (k : List Answer). ShutLast x.wire k) (sym e) (last-append x.wire h.read rest (unshut-last x.wire h.read unread) l (λ s. absurd (cc (sym unread ∙ s))))

  go : Settled x.wire h.settled.stage h.shut h.trace → Closes x.wire x.stage y.stage mine (ends_in x.wire own)
  go (inl s) =
      let silent : h.written ≡ [] = said.none (ap has_wire s.1) in
      let all : mine ≡ h.read ++ was_shut x.wire ∷ [] = ended (was_shut x.wire ∷ []) (ap (λ l. l ++ h.written) s.0 ∙ ap (λ l. was_shut x.wire ∷ l) silent) in
      let unwritten : was_shut_in x.wire h.written ≡ false = ap (λ l. was_shut_in x.wire l) silent in
      record {
        ends = inl (shuts (was_shut x.wire ∷ []) all ∙ one-shut x.wire, lost.0 ∙ still h.said.stage said.ends unwritten ∙ ap has_wire s.1);
        last = lasts (was_shut x.wire ∷ []) all (shut-alone x.wire);
        none = λ k. absurd (cc (sym k ∙ has));
        done = λ d. inr (lost.2 s.2);
        stays = λ d. undone-live x.stage (ap is_live live) d;
      } where
        still : (after : Stage) → ((was_shut_in x.wire h.written ≡ true) × (has_wire after ≡ false)) ⊎ ((was_shut_in x.wire h.written ≡ false) × (has_wire after ≡ has_wire h.settled.stage)) →
            was_shut_in x.wire h.written ≡ false → has_wire after ≡ has_wire h.settled.stage
        still after (inl e) f = absurd (cc (sym f ∙ e.0))
        still after (inr e) f = e.1
  go (inr s) =
      let all : mine ≡ h.read ++ h.written = ended h.written (ap (λ l. l ++ h.written) s.0) in
      record {
        ends = by said.ends all;
        last = lasts h.written all said.last;
        none = λ k. absurd (cc (sym k ∙ has));
        done = λ d. which (lost.1 d);
        stays = λ d. undone-live x.stage (ap is_live live) d;
      } where
        by : ((was_shut_in x.wire h.written ≡ true) × (has_wire h.said.stage ≡ false)) ⊎ ((was_shut_in x.wire h.written ≡ false) × (has_wire h.said.stage ≡ has_wire h.settled.stage)) → mine ≡ h.read ++ h.written →
            ((was_shut_in x.wire mine ≡ true) × (has_wire y.stage ≡ false)) ⊎ ((was_shut_in x.wire mine ≡ false) × (has_wire y.stage ≡ has_wire x.stage))
        by (inl e) all = inl (shuts h.written all ∙ e.0, lost.0 ∙ e.1)
        by (inr e) all = inr (shuts h.written all ∙ e.0, lost.0 ∙ e.1 ∙ s.1 ∙ sym has)

        settled : (is_done h.settled.stage ≡ true) ⊎ (false ≡ true) → (is_done x.stage ≡ true) ⊎ (ends_in x.wire own ≡ true)
        settled (inl d) = inr (lost.2 (s.2 d))
        settled (inr d) = absurd (cc d)

        which : (is_done h.said.stage ≡ true) ⊎ (ends_in x.wire own ≡ true) → (is_done x.stage ≡ true) ⊎ (ends_in x.wire own ≡ true)
        which (inl d) = settled (said.done d)
        which (inr d) = inr d

-- a call in which nothing ends
more-ends : (wire : ℕ) (before after : Stage) (mine : List Answer) (ended : Bool) → Closes wire before after mine false → Closes wire before after mine ended
more-ends wire before after mine ended c = record { ends = c.ends; last = c.last; none = c.none; done = λ d. go (c.done d); stays = c.stays } where
  go : (is_done before ≡ true) ⊎ (false ≡ true) → (is_done before ≡ true) ⊎ (ended ≡ true)
  go (inl d) = inl d
  go (inr d) = absurd (cc d)

listens-close : (now : ℕ) (x y : Lane) (mine : List Answer) (own : Option Event) → Listens now x y mine own → Closes x.wire x.stage y.stage mine (ends_in x.wire own)
listens-close now x y mine own h = go x.stage refl h where
  go : (s : Stage) → x.stage ≡ s → TurnsAt s now x y mine own → Closes x.wire x.stage y.stage mine (ends_in x.wire own)
  go Live e h = by-fullness (λ (l : Lane). Closes x.wire x.stage l.stage mine (ends_in x.wire own)) now x y mine own
      (λ d f s. more-ends x.wire x.stage y.stage mine (ends_in x.wire own) (says-close now (record x { full = None }) y mine s))
      (λ s f. record {
        ends = inl (ap (λ l. was_shut_in x.wire l) f.0 ∙ one-shut x.wire, ap (λ (l : Lane). has_wire l.stage) f.2);
        last = subst (λ (l : List Answer). ShutLast x.wire l) (sym f.0) (shut-alone x.wire);
        none = λ k. absurd (cc (sym k ∙ ap has_wire e));
        done = λ d. inr (ap (λ o. ends_in x.wire o) f.1 ∙ same x.wire);
        stays = λ d. undone-live x.stage (ap is_live e) d;
      })
      (λ mid t. live-close now x mid mine own e t)
      h
  go Lost e h = record {
    ends = inr (ap (λ l. was_shut_in x.wire l) h.0, ap (λ (l : Lane). has_wire l.stage) h.2 ∙ sym (ap has_wire e));
    last = subst (λ (l : List Answer). ShutLast x.wire l) (sym h.0) tt;
    none = λ k. h.0;
    done = λ d. inr (ap (λ o. ends_in x.wire o) h.1 ∙ same x.wire);
    stays = λ d. ap (λ (l : Lane). is_done l.stage) h.2;
  }
  go Closing e h = more-ends x.wire x.stage y.stage mine (ends_in x.wire own) (says-close now x y mine h.1)
  go Over e h = more-ends x.wire x.stage y.stage mine (ends_in x.wire own) (idles x.wire x.stage y.stage mine h.0 (ap (λ (l : Lane). l.stage) h.2))

unended : (wire : ℕ) (what : Event) → is_on wire what ≡ false → is_end_on wire what ≡ false
unended wire (event.Request at request) h = refl
unended wire (event.Refused at refusal) h = h
unended wire (event.Bytes at bytes) h = refl
unended wire (event.Response at status body) h = refl
unended wire (event.Upgraded at) h = refl
unended wire (event.Lost at) h = h
unended wire (event.Drained at) h = refl
unended wire event.Quiet h = refl

heard-ends : (wire : ℕ) (own : Option Event) (what : Event) → IsHeard wire own what → is_end_on wire what ≡ ends_in wire own
heard-ends wire None what h = unended wire what h
heard-ends wire (Some trace) what h = ap (λ v. is_end_on wire v) h

heeds-close : (now : ℕ) (what : Event) (x y : Lane) (mine : List Answer) → Heeds now what x y mine → Closes x.wire x.stage y.stage mine (is_end_on x.wire what)
heeds-close now what x y mine (inl h) = subst (λ b. Closes x.wire x.stage y.stage mine b) (sym (heard-ends x.wire h.0 what h.2)) (listens-close now x y mine h.0 h.1)
heeds-close now what x y mine (inr h) = more-ends x.wire x.stage y.stage mine (is_end_on x.wire what) (bystander-close now x y mine h.0)

-- ---- a lane that is heard as ended is done

loses-over : (wire : ℕ) (trace : Option Event) (said y : Lane) (own : Option Event) → Loses trace said y own → (ends_in wire trace ≡ true → is_done said.stage ≡ true) → ends_in wire own ≡ true → is_done y.stage ≡ true
loses-over wire (Some here) said y own h over t = ap (λ (l : Lane). is_done l.stage) h.1 ∙ over (sym (ap (λ o. ends_in wire o) h.0) ∙ t)
loses-over wire None said y own h over t = go said.stage h where
  none : own ≡ None → is_done y.stage ≡ true
  none e = absurd (cc (sym (ap (λ o. ends_in wire o) e) ∙ t))

  go : (s : Stage) → LosesAt s said y own → is_done y.stage ≡ true
  go Live h = none h.0
  go Lost h = ap (λ (l : Lane). is_done l.stage) h.1
  go Closing h = none h.0
  go Over h = none h.0

live-over : (now : ℕ) (x y : Lane) (mine : List Answer) (own : Option Event) → x.stage ≡ Live → TurnsLive now x y mine own → ends_in x.wire own ≡ true → is_done y.stage ≡ true
live-over now x y mine own live h t =
    loses-over x.wire h.trace h.said y own h.loses (λ e. (says-close now h.settled h.said h.written h.says).stays (settled (settles-settled now (after_hearing h.protocol x) h.settled h.shut h.input h.trace live h.settles) e)) t where
      settled : Settled x.wire h.settled.stage h.shut h.trace → ends_in x.wire h.trace ≡ true → is_done h.settled.stage ≡ true
      settled (inl s) e = ap is_done s.1
      settled (inr s) e = s.3 e

listens-over : (now : ℕ) (x y : Lane) (mine : List Answer) (own : Option Event) → Listens now x y mine own → ends_in x.wire own ≡ true → is_done y.stage ≡ true
listens-over now x y mine own h t = go x.stage refl h where
  none : (o : Option Event) → own ≡ o → ends_in x.wire o ≡ false → is_done y.stage ≡ true
  none o e f = absurd (cc (sym (ap (λ o. ends_in x.wire o) e ∙ f) ∙ t))

  go : (s : Stage) → x.stage ≡ s → TurnsAt s now x y mine own → is_done y.stage ≡ true
  go Live e h = by-fullness (λ (l : Lane). is_done l.stage ≡ true) now x y mine own (λ d f s. none (Some (event.Drained x.wire)) f refl) (λ s f. ap (λ (l : Lane). is_done l.stage) f.2) (λ mid k. live-over now x mid mine own e k t) h
  go Lost e h = ap (λ (l : Lane). is_done l.stage) h.2
  go Closing e h = none None h.0 refl
  go Over e h = none None h.1 refl

pub heeds-over : (now : ℕ) (what : Event) (x y : Lane) (mine : List Answer) → Heeds now what x y mine → is_end_on x.wire what ≡ true → is_done y.stage ≡ true
heeds-over now what x y mine (inl h) e = listens-over now x y mine h.0 h.1 (sym (heard-ends x.wire h.0 what h.2) ∙ e)
heeds-over now what x y mine (inr h) e = absurd (cc (sym (unended x.wire what h.1) ∙ e))

-- ---- saying

pub live-has : (s : Stage) → is_live s ≡ true → has_wire s ≡ true
live-has Live e = refl
live-has Lost e = absurd (cc e)
live-has Closing e = refl
live-has Over e = absurd (cc e)

pub owes-live : (x : Lane) → owes x ≡ true → is_live x.stage ≡ true
owes-live x e = go (is_live x.stage) refl where
  go : (b : Bool) → is_live x.stage ≡ b → is_live x.stage ≡ true
  go true f = f
  go false f = absurd (cc (sym (ap (λ b. b && is_busy x.protocol) f) ∙ e))

-- the wire and the stage of the lane that it becomes first are those that it had
moved-close : (x mid y : Lane) (mine : List Answer) → mid.wire ≡ x.wire → mid.stage ≡ x.stage → Closes mid.wire mid.stage y.stage mine false → Closes x.wire x.stage y.stage mine false
moved-close x mid y mine e f c = subst (λ n. Closes n x.stage y.stage mine false) e (subst (λ s. Closes mid.wire s y.stage mine false) f c)

pub replied-stage : (now : ℕ) (reply : Reply) (x : Lane) → (after_reply now reply x).stage ≡ x.stage
replied-stage now reply x = go (reply.status == SWITCHING) where
  go : (b : Bool) → (if b then record x { protocol = new_socket (rest_of x.protocol); out = x.out ++ reply_text reply }
      else record x { protocol = protocol_after_reply x.protocol; out = x.out ++ reply_text reply; since = now }).stage ≡ x.stage
  go true = refl
  go false = refl

replies-close : (now : ℕ) (reply : Reply) (x y : Lane) (mine : List Answer) → Replies now reply x y mine → Closes x.wire x.stage y.stage mine false
replies-close now reply x y mine h = go (owes x) refl h where
  go : (b : Bool) → owes x ≡ b → Chooses b (SaysMore (after_reply now reply x) y mine) ((mine ≡ []) × (y ≡ x)) → Closes x.wire x.stage y.stage mine false
  go true e h =
      moved-close x (after_reply now reply x) y mine (replied-wire now reply x) (replied-stage now reply x)
      (more-close (after_reply now reply x) y mine (ap has_wire (replied-stage now reply x) ∙ live-has x.stage (owes-live x e)) h)
  go false e h = idles x.wire x.stage y.stage mine h.0 (ap (λ (l : Lane). l.stage) h.1)

pub put-stage : (live : Bool) (protocol : Protocol) (bytes : List ℕ) (text : Bool) (x mid : Lane) (is_put : Bool) → PutsAt live protocol bytes text x mid is_put → (mid.stage ≡ x.stage) × (is_put ≡ true → live ≡ true)
put-stage true (Socket websocket_state) bytes text x mid is_put h = (ap (λ (l : Lane). l.stage) h.2, λ e. refl)
put-stage true (Http http_state) bytes text x mid is_put h = (ap (λ (l : Lane). l.stage) h.1, λ e. refl)
put-stage true (Response response_state) bytes text x mid is_put h = (ap (λ (l : Lane). l.stage) h.1, λ e. refl)
put-stage false protocol bytes text x mid is_put h = (ap (λ (l : Lane). l.stage) h.1, λ e. absurd (cc (sym h.0 ∙ e)))

sends-close : (now : ℕ) (bytes : List ℕ) (text : Bool) (x y : Lane) (mine : List Answer) → Sends now bytes text x y mine → Closes x.wire x.stage y.stage mine false
sends-close now bytes text x y mine h = go h.0 h.1 h.2 h.3 where
  go : (mid : Lane) (b : Bool) → Puts bytes text x mid b → SaysPut now b mid y mine → Closes x.wire x.stage y.stage mine false
  go mid true p s =
      let put = put-stage (is_live x.stage) x.protocol bytes text x mid true p in
      subst (λ (l : Lane). Closes x.wire x.stage l.stage mine false) (sym s.2)
      (moved-close x mid s.0 mine (put-wire (is_live x.stage) x.protocol bytes text x mid true p) put.0 (gathered-close mid s.0 mine (ap has_wire put.0 ∙ live-has x.stage (put.1 refl)) s.1))
  go mid false p s = idles x.wire x.stage y.stage mine s.0 (ap (λ (l : Lane). l.stage) s.1 ∙ (put-stage (is_live x.stage) x.protocol bytes text x mid false p).0)

shuts-close : (now : ℕ) (x y : Lane) (mine : List Answer) → Shuts now x y mine → Closes x.wire x.stage y.stage mine true
shuts-close now x y mine h = go (is_live x.stage) refl h where
  go : (b : Bool) → is_live x.stage ≡ b → Chooses b (WritesOut (record x { since = now; protocol = protocol_after_shut x.protocol; stage = Closing }) y mine) ((mine ≡ []) × (y ≡ x)) → Closes x.wire x.stage y.stage mine true
  go true e h =
      let has = live-has x.stage e in
      let c = writes-close (record x { since = now; protocol = protocol_after_shut x.protocol; stage = Closing }) y mine refl h in
      record {
        ends = subst (λ b. ((was_shut_in x.wire mine ≡ true) × (has_wire y.stage ≡ false)) ⊎ ((was_shut_in x.wire mine ≡ false) × (has_wire y.stage ≡ b))) (sym has) c.ends;
        last = c.last;
        none = λ k. absurd (cc (sym k ∙ has));
        done = λ d. inr refl;
        stays = λ d. undone-live x.stage e d;
      }
  go false e h = more-ends x.wire x.stage y.stage mine true (idles x.wire x.stage y.stage mine h.0 (ap (λ (l : Lane). l.stage) h.1))

-- ---- sessions

-- the call ends the lane
abbrev pub ends_by : ℕ → Call → Bool
ends_by wire (session.heard what answers) = is_end_on wire what.event
ends_by wire (session.replied at reply answers) = false
ends_by wire (session.sent at bytes text full answers) = false
ends_by wire (session.shut at answers) = at == wire
ends_by wire (session.wrote at answers) = false

pub moves-close : (call : Call) (x y : Lane) → Moves call x y → Closes x.wire x.stage y.stage (share x.wire (answers_in call)) (ends_by x.wire call)
moves-close (session.heard what answers) x y h = heeds-close what.now what.event x y (share x.wire answers) h
moves-close (session.replied at reply answers) x y h =
    by-number at (Replies h.0 reply) x y (share x.wire answers) (λ b. Closes x.wire x.stage y.stage (share x.wire answers) false)
    (replies-close h.0 reply x y (share x.wire answers)) (λ e f. idles x.wire x.stage y.stage (share x.wire answers) f (ap (λ (l : Lane). l.stage) e)) h.1
moves-close (session.sent at bytes text full answers) x y h =
    by-number at (Sends h.0 bytes text) x y (share x.wire answers) (λ b. Closes x.wire x.stage y.stage (share x.wire answers) false)
    (sends-close h.0 bytes text x y (share x.wire answers)) (λ e f. idles x.wire x.stage y.stage (share x.wire answers) f (ap (λ (l : Lane). l.stage) e)) h.1
moves-close (session.shut at answers) x y h =
    by-number at (Shuts h.0) x y (share x.wire answers) (λ b. Closes x.wire x.stage y.stage (share x.wire answers) b)
    (shuts-close h.0 x y (share x.wire answers)) (λ e f. idles x.wire x.stage y.stage (share x.wire answers) f (ap (λ (l : Lane). l.stage) e)) h.1
moves-close (session.wrote at answers) x y h = bystander-close 0 x y (share x.wire answers) h

done-more : (wire : ℕ) (call : Call) (calls : List Call) → came_in wire (answers_of (call ∷ calls)) ≡ true → is_done_on wire (call ∷ calls) ≡ (ends_by wire call || is_done_on wire calls)
done-more wire (session.heard what answers) calls came = refl
done-more wire (session.replied at reply answers) calls came = refl
done-more wire (session.sent at bytes text full answers) calls came = refl
done-more wire (session.wrote at answers) calls came = refl
done-more wire (session.shut at answers) calls came =
    ap (λ b. ((at == wire) && b) || is_done_on wire calls) came ∙ ap (λ b. b || is_done_on wire calls) (and-true (at == wire)) where
      and-true : (a : Bool) → (a && true) ≡ a
      and-true true = refl
      and-true false = refl

shut-more : (wire : ℕ) (calls : List Call) (call : Call) → was_shut_in wire (answers_of (call ∷ calls)) ≡ (was_shut_in wire (answers_of calls) || was_shut_in wire (share wire (answers_in call)))
shut-more wire calls call = shut-append wire (answers_of calls) (answers_in call) ∙ ap (λ b. was_shut_in wire (answers_of calls) || b) (shut-share wire (answers_in call))

-- the wire of a lane was shut if it has none any more, and its calls tell that it is done if it is
abbrev IsClosed : List Call → Lane → Type 0
IsClosed calls lane =
    (was_shut_in lane.wire (answers_of calls) ≡ not (has_wire lane.stage)) × (is_done lane.stage ≡ true → is_done_on lane.wire calls ≡ true)

-- the same, where this tells that the lane is done
abbrev pub ClosedBy : Bool → ℕ → List Call → Stage → Type 0
ClosedBy told wire calls stage = (was_shut_in wire (answers_of calls) ≡ not (has_wire stage)) × (is_done stage ≡ true → told ≡ true)

pub closes-more : (told : Bool) (call : Call) (calls : List Call) (x y : Lane) → ClosedBy told x.wire calls x.stage → Moves call x y → ClosedBy (ends_by x.wire call || told) x.wire (call ∷ calls) y.stage
closes-more told call calls x y k h = (shut-more x.wire calls call ∙ wire c.ends, λ d. done (c.done d)) where
  c : Closes x.wire x.stage y.stage (share x.wire (answers_in call)) (ends_by x.wire call)
  c = moves-close call x y h

  wire : ((was_shut_in x.wire (share x.wire (answers_in call)) ≡ true) × (has_wire y.stage ≡ false)) ⊎ ((was_shut_in x.wire (share x.wire (answers_in call)) ≡ false) × (has_wire y.stage ≡ has_wire x.stage)) →
      (was_shut_in x.wire (answers_of calls) || was_shut_in x.wire (share x.wire (answers_in call))) ≡ not (has_wire y.stage)
  wire (inl e) = ap (λ b. was_shut_in x.wire (answers_of calls) || b) e.0 ∙ or-true (was_shut_in x.wire (answers_of calls)) ∙ ap not (sym e.1)
  wire (inr e) = ap (λ b. was_shut_in x.wire (answers_of calls) || b) e.0 ∙ or-false (was_shut_in x.wire (answers_of calls)) ∙ k.0 ∙ ap not (sym e.1)

  done : (is_done x.stage ≡ true) ⊎ (ends_by x.wire call ≡ true) → (ends_by x.wire call || told) ≡ true
  done (inl d) = ap (λ b. ends_by x.wire call || b) (k.1 d) ∙ or-true (ends_by x.wire call)
  done (inr d) = ap (λ b. b || told) d

closed-here : (call : Call) (calls : List Call) (x y : Lane) → came_in x.wire (answers_of (call ∷ calls)) ≡ true → IsClosed calls x → Moves call x y → ClosedBy (is_done_on x.wire (call ∷ calls)) x.wire (call ∷ calls) y.stage
closed-here call calls x y came k h =
    let c = closes-more (is_done_on x.wire calls) call calls x y k h in (c.0, λ d. done-more x.wire call calls came ∙ c.1 d)

step-closed : (call : Call) (calls : List Call) (x y : Lane) → came_in x.wire (answers_of (call ∷ calls)) ≡ true → IsClosed calls x → Moves call x y → IsClosed (call ∷ calls) y
step-closed call calls x y came k h =
    subst (λ n. (was_shut_in n (answers_of (call ∷ calls)) ≡ not (has_wire y.stage)) × (is_done y.stage ≡ true → is_done_on n (call ∷ calls) ≡ true)) (sym (moves-wire call x y h)) (closed-here call calls x y came k h)

new-closed : (calls : List Call) (now wire : ℕ) → IsUntouched wire calls → IsClosed calls (new_lane now wire)
new-closed calls now wire h = (shut-share wire (answers_of calls) ∙ ap (λ l. was_shut_in wire l) h.answers, λ d. absurd (cc d))

pub lanes-have-wires : LanesHaveWires
lanes-have-wires calls bound now h lane has = (each-come IsClosed new-closed step-closed calls bound now h lane (has-of now.lanes lane has)).0

-- ---- once

has-not : (b : Bool) → not b ≡ true → b ≡ false
has-not true e = absurd (cc e)
has-not false e = refl

-- a call adds no answer about a wire once that was shut, if so it is told of the lanes that move in it
pub last-of : (call : Call) (calls : List Call) (wire : ℕ) (lanes after : List Lane) → ((x : Lane) → Has lanes x → (y : Lane) × Has after y × Moves call x y) → (Without wire lanes → share wire (answers_in call) ≡ []) →
    ((x : Lane) → Has lanes x → was_shut_in x.wire (answers_of calls) ≡ not (has_wire x.stage)) →
    ShutLast wire (answers_in call) × (was_shut_in wire (answers_of calls) ≡ true → are_about wire (answers_in call) ≡ false)
last-of call calls wire lanes after on off was = go (find wire lanes) where
  go : Without wire lanes ⊎ ((x : Lane) × Has lanes x × (x.wire ≡ wire)) → ShutLast wire (answers_in call) × (was_shut_in wire (answers_of calls) ≡ true → are_about wire (answers_in call) ≡ false)
  go (inl none) =
      let empty = off none in
      (last-share wire (answers_in call) (subst (λ (l : List Answer). ShutLast wire l) (sym empty) tt), λ s. about-share wire (answers_in call) ∙ ap (λ l. are_about wire l) empty)
  go (inr found) =
      let x = found.0 in
      let p = on x found.1 in
      let c = moves-close call x p.0 p.2 in
      subst (λ n. ShutLast n (answers_in call) × (was_shut_in n (answers_of calls) ≡ true → are_about n (answers_in call) ≡ false)) found.2 (
        last-share x.wire (answers_in call) c.last,
        λ s. about-share x.wire (answers_in call) ∙ ap (λ l. are_about x.wire l) (c.none (has-not (has_wire x.stage) (sym (was x found.1) ∙ s))),
      )

call-last : (call : Call) (calls : List Call) (bound : ℕ) (now : DoorState) (h : Session (call ∷ calls) bound now) (wire : ℕ) →
    ShutLast wire (answers_in call) × (was_shut_in wire (answers_of calls) ≡ true → are_about wire (answers_in call) ≡ false)
call-last call calls bound now h wire =
    let step = steps-in call calls bound now h in
    last-of call calls wire step.lanes now.lanes step.on (λ none. (step.off wire none).0) (λ x has. (before-come IsClosed new-closed step-closed call calls bound now h x has).0)

all-last : (calls : List Call) (bound : ℕ) (now : DoorState) (wire : ℕ) → Session calls bound now → ShutLast wire (answers_of calls)
all-last [] bound now wire h = tt
all-last (call ∷ calls) bound now wire h =
    let last = call-last call calls bound now h wire in
    last-append wire (answers_of calls) (answers_in call) (all-last calls h.0 h.1 wire h.2) last.0 last.1

pub shut-once : WiresAreShutOnce
shut-once calls bound now h wire before after e =
    let last = subst (λ (l : List Answer). ShutLast wire l) e (all-last calls bound now wire h) in (none-before wire before after last, none-after wire before after last)

-- ---- the cause

lost-or-over : (s : Stage) → has_wire s ≡ false → (s ≡ Lost) ⊎ (s ≡ Over)
lost-or-over Live e = absurd (cc e)
lost-or-over Lost e = inl refl
lost-or-over Closing e = absurd (cc e)
lost-or-over Over e = inr refl

-- a wire that is shut in a call is that of a lane that moved, and is lost, or over and done
pub cause-of : (told : List Call → Bool) (call : Call) (calls : List Call) (wire : ℕ) (lanes after : List Lane) → was_shut_in wire (answers_in call) ≡ true → ((x : Lane) → Has lanes x → (y : Lane) × Has after y × Moves call x y) →
    (Without wire lanes → share wire (answers_in call) ≡ []) → ((x y : Lane) → Has lanes x → Moves call x y → x.wire ≡ wire → is_done y.stage ≡ true → told (call ∷ calls) ≡ true) →
    (lane : Lane) × Contains after lane × (lane.wire ≡ wire) × ((lane.stage ≡ Lost) ⊎ ((lane.stage ≡ Over) × (told (call ∷ calls) ≡ true)))
cause-of told call calls wire lanes after e on off closed = go (find wire lanes) where
  shared : was_shut_in wire (share wire (answers_in call)) ≡ true
  shared = sym (shut-share wire (answers_in call)) ∙ e

  ended : (wire : ℕ) (before after : Stage) (mine : List Answer) → was_shut_in wire mine ≡ true →
      ((was_shut_in wire mine ≡ true) × (has_wire after ≡ false)) ⊎ ((was_shut_in wire mine ≡ false) × (has_wire after ≡ has_wire before)) → has_wire after ≡ false
  ended wire before after mine f (inl k) = k.1
  ended wire before after mine f (inr k) = absurd (cc (sym k.0 ∙ f))

  cause : (s : Stage) (done : Bool) → (s ≡ Lost) ⊎ (s ≡ Over) → (is_done s ≡ true → done ≡ true) → (s ≡ Lost) ⊎ ((s ≡ Over) × (done ≡ true))
  cause s done (inl l) k = inl l
  cause s done (inr o) k = inr (o, k (ap is_done o))

  go : Without wire lanes ⊎ ((x : Lane) × Has lanes x × (x.wire ≡ wire)) →
      (lane : Lane) × Contains after lane × (lane.wire ≡ wire) × ((lane.stage ≡ Lost) ⊎ ((lane.stage ≡ Over) × (told (call ∷ calls) ≡ true)))
  go (inl none) = absurd (off-and-on (was_shut_in wire (share wire (answers_in call))) (ap (λ l. was_shut_in wire l) (off none)) shared)
  go (inr found) =
      let x = found.0 in
      let p = on x found.1 in
      let y = p.0 in
      let c = moves-close call x y p.2 in
      let here : was_shut_in x.wire (share x.wire (answers_in call)) ≡ true = subst (λ n. was_shut_in n (share n (answers_in call)) ≡ true) (sym found.2) shared in
      let unwired = ended x.wire x.stage y.stage (share x.wire (answers_in call)) here c.ends in (
        y,
        contains-of after y p.1,
        moves-wire call x y p.2 ∙ found.2,
        cause y.stage (told (call ∷ calls)) (lost-or-over y.stage unwired) (closed x y found.1 p.2 found.2),
      )

pub shut-for-a-cause : WiresAreShutForACause
shut-for-a-cause call calls bound now h wire e =
    let step = steps-in call calls bound now h in
    cause-of (is_done_on wire) call calls wire step.lanes now.lanes e step.on (λ none. (step.off wire none).0)
    (λ x y has m at d. subst (λ n. is_done_on n (call ∷ calls) ≡ true) at
    ((closed-here call calls x y (mover-came call calls bound now h x has) (before-come IsClosed new-closed step-closed call calls bound now h x has) m).1 d))
