-- In a session of a dialer nothing is heard of a lane after its loss, and of one that the caller shut nothing but its loss.
use Rattle.std.proofs.Common.{◌≡◌, ◌⊎◌, ◌==◌, ◌&&◌, ◌||◌, ◌∷◌, ℕ, Bool, true, false, not, List, Option, None, Some, refl, sym, ap, ◌∙◌, subst, inl, inr, length}
use Rattle.hw_door.specs.declared.heard.Address.{Address}
use Rattle.hw_door.specs.declared.heard.Event.{Event}
use Rattle.hw_door.specs.declared.heard.Event.TheVariants as event
use Rattle.hw_door.specs.Traffic.{Answer}
use Rattle.hw_net.specs.declared.protocol.Stage.{Stage}
use Rattle.hw_net.specs.declared.protocol.Stage.TheVariants.{Live, Lost, Closing, Over}
use Rattle.hw_net.specs.Bounds.{has_wire}
use Rattle.hw_net.specs.DialerSessions.{DialerAsk, DialerCall, NothingIsHeardAfter, all_on_wires, answers_of, asked, cut, does, idle, is_lost_on, is_shut_on, missed, on_wires, text_of}
use Rattle.hw_net.specs.Lane.{Lane, dialed_lane, is_live}
use Rattle.hw_net.specs.Saying.{is_too_much}
use Rattle.hw_net.specs.Sessions as session
use Rattle.hw_net.specs.Sessions.{Call, is_end_on, was_shut_in}
use Rattle.hw_net.specs.Turn.{Listens, TurnsAt}
use Rattle.hw_net.proofs.Bystanders.{SaysOrStays}
use Rattle.hw_net.proofs.Closings.{ends_by, heeds-over, is_done, moves-close}
use Rattle.hw_net.proofs.DialerEnds.{wired}
use Rattle.hw_net.proofs.DialerTold.{on-its-lane}
use Rattle.hw_net.proofs.DialerWalks.{IsOther, dialed-mover, each-dialed}
use Rattle.hw_net.proofs.Lasting.{moves-live}
use Rattle.hw_net.proofs.Owning.{bystander-keeps, is_on}
use Rattle.hw_net.proofs.Shares.{same, share}
use Rattle.hw_net.proofs.Walks.{Heeds, IsHeard, IsUntouched, Moves, moves-wire, off-and-on}

-- the loss is heard in the call, or the lane is shut by it
abbrev loses_by : ℕ → Call → Bool
loses_by wire (session.heard what answers) = is_end_on wire what.event
loses_by wire _ = false

abbrev shuts_by : ℕ → Call → Bool
shuts_by wire (session.shut at answers) = at == wire
shuts_by wire _ = false

lost-more : (wire : ℕ) (call : DialerCall) (calls : List DialerCall) → IsOther call wire → is_lost_on wire (call ∷ calls) ≡ (loses_by wire (on_wires call) || is_lost_on wire calls)
lost-more wire (does lane (session.heard what answers)) calls other = refl
lost-more wire (does lane (session.replied at reply answers)) calls other = refl
lost-more wire (does lane (session.sent at bytes text full answers)) calls other = refl
lost-more wire (does lane (session.shut at answers)) calls other = refl
lost-more wire (does lane (session.wrote at answers)) calls other = refl
lost-more wire (asked ask None answers) calls other = refl
lost-more wire (asked ask (Some at) answers) calls other = ap (λ b. not b && is_lost_on wire calls) other
lost-more wire (missed now lane answers) calls other = refl
lost-more wire (idle told) calls other = refl
lost-more wire (cut answers) calls other = refl

shut-more : (wire : ℕ) (call : DialerCall) (calls : List DialerCall) → IsOther call wire → is_shut_on wire (call ∷ calls) ≡ (shuts_by wire (on_wires call) || is_shut_on wire calls)
shut-more wire (does lane (session.heard what answers)) calls other = refl
shut-more wire (does lane (session.replied at reply answers)) calls other = refl
shut-more wire (does lane (session.sent at bytes text full answers)) calls other = refl
shut-more wire (does lane (session.shut at answers)) calls other = refl
shut-more wire (does lane (session.wrote at answers)) calls other = refl
shut-more wire (asked ask None answers) calls other = refl
shut-more wire (asked ask (Some at) answers) calls other = ap (λ b. not b && is_shut_on wire calls) other
shut-more wire (missed now lane answers) calls other = refl
shut-more wire (idle told) calls other = refl
shut-more wire (cut answers) calls other = refl

either : (a b : Bool) → (a || b) ≡ true → (a ≡ true) ⊎ (b ≡ true)
either true b e = inl refl
either false b e = inr e

clash : {A : Type 0} (b : Bool) → b ≡ true → b ≡ false → A
clash b e f = absurd (cc (sym e ∙ f))

-- ---- what becomes of a lane

-- once its loss was heard it is done, and once it was shut it isn't live
abbrev IsAfter : List DialerCall → Lane → Type 0
IsAfter calls lane = (is_lost_on lane.wire calls ≡ true → is_done lane.stage ≡ true) × (is_shut_on lane.wire calls ≡ true → is_live lane.stage ≡ false)

moves-over : (call : Call) (x y : Lane) → Moves call x y → loses_by x.wire call ≡ true → is_done y.stage ≡ true
moves-over (session.heard what answers) x y h e = heeds-over what.now what.event x y (share x.wire answers) h e
moves-over (session.replied at reply answers) x y h e = absurd (cc e)
moves-over (session.sent at bytes text full answers) x y h e = absurd (cc e)
moves-over (session.shut at answers) x y h e = absurd (cc e)
moves-over (session.wrote at answers) x y h e = absurd (cc e)

shut-ends : (wire : ℕ) (call : Call) → shuts_by wire call ≡ true → ends_by wire call ≡ true
shut-ends wire (session.heard what answers) e = absurd (cc e)
shut-ends wire (session.replied at reply answers) e = absurd (cc e)
shut-ends wire (session.sent at bytes text full answers) e = absurd (cc e)
shut-ends wire (session.shut at answers) e = e
shut-ends wire (session.wrote at answers) e = absurd (cc e)

after-here : (call : DialerCall) (calls : List DialerCall) (x y : Lane) → IsOther call x.wire → IsAfter calls x → Moves (on_wires call) x y →
    (is_lost_on x.wire (call ∷ calls) ≡ true → is_done y.stage ≡ true) × (is_shut_on x.wire (call ∷ calls) ≡ true → is_live y.stage ≡ false)
after-here call calls x y other k m = (
  λ e. lost (either (loses_by x.wire (on_wires call)) (is_lost_on x.wire calls) (sym (lost-more x.wire call calls other) ∙ e)),
  λ e. shut (is_live y.stage) refl (either (shuts_by x.wire (on_wires call)) (is_shut_on x.wire calls) (sym (shut-more x.wire call calls other) ∙ e)),
) where
  lost : (loses_by x.wire (on_wires call) ≡ true) ⊎ (is_lost_on x.wire calls ≡ true) → is_done y.stage ≡ true
  lost (inl e) = moves-over (on_wires call) x y m e
  lost (inr e) = (moves-close (on_wires call) x y m).stays (k.0 e)

  shut : (live : Bool) → is_live y.stage ≡ live → (shuts_by x.wire (on_wires call) ≡ true) ⊎ (is_shut_on x.wire calls ≡ true) → is_live y.stage ≡ false
  shut false l e = l
  shut true l (inl e) = clash (ends_by x.wire (on_wires call)) (shut-ends x.wire (on_wires call) e) (moves-live (on_wires call) x y m l).1
  shut true l (inr e) = clash (is_live x.stage) (moves-live (on_wires call) x y m l).0 (k.1 e)

step-after : (call : DialerCall) (calls : List DialerCall) (x y : Lane) → IsOther call x.wire → IsAfter calls x → Moves (on_wires call) x y → IsAfter (call ∷ calls) y
step-after call calls x y other k m =
    subst (λ n. (is_lost_on n (call ∷ calls) ≡ true → is_done y.stage ≡ true) × (is_shut_on n (call ∷ calls) ≡ true → is_live y.stage ≡ false)) (sym (moves-wire (on_wires call) x y m))
    (after-here call calls x y other k m)

new-after : (addresses : List Address) (ask : DialerAsk) (wire : ℕ) (answers : List Answer) (calls : List DialerCall) (now : ℕ) (y : Lane) → IsUntouched wire (all_on_wires calls) → is_too_much (length (text_of addresses ask)) ≡ false →
    SaysOrStays 0 (dialed_lane now wire (text_of addresses ask) ask.upgrade) y (share wire answers) → IsAfter (asked ask (Some wire) answers ∷ calls) y
new-after addresses ask wire answers calls now y fresh little m =
    let here = (bystander-keeps 0 (dialed_lane now wire (text_of addresses ask) ask.upgrade) y (share wire answers) m).0 in
    subst (λ n. (is_lost_on n (asked ask (Some wire) answers ∷ calls) ≡ true → is_done y.stage ≡ true) × (is_shut_on n (asked ask (Some wire) answers ∷ calls) ≡ true → is_live y.stage ≡ false)) (sym here) (
      λ e. clash (not (wire == wire) && is_lost_on wire calls) e (ap (λ b. not b && is_lost_on wire calls) (same wire)),
      λ e. clash (not (wire == wire) && is_shut_on wire calls) e (ap (λ b. not b && is_shut_on wire calls) (same wire)),
    )

-- ---- what is heard of it then

-- this event is heard of a lane of which its loss was heard, or which was shut, or not
abbrev IsLast : Event → Lane → Bool → Bool → Type 0
IsLast what x lost shut = (lost ≡ false) × (shut ≡ true → (what ≡ event.Lost x.wire) × (has_wire x.stage ≡ false))

heard-last : (now : ℕ) (what : Event) (x y : Lane) (mine : List Answer) (lost shut : Bool) → Heeds now what x y mine → is_on x.wire what ≡ true → (lost ≡ true → is_done x.stage ≡ true) → (shut ≡ true → is_live x.stage ≡ false) → IsLast what x lost shut
heard-last now what x y mine lost shut (inr h) on k l = absurd (off-and-on (is_on x.wire what) h.1 on)
heard-last now what x y mine lost shut (inl h) on k l = go h.0 h.1 h.2 where
  unlost : is_done x.stage ≡ false → (b : Bool) → lost ≡ b → lost ≡ false
  unlost e false f = f
  unlost e true f = clash (is_done x.stage) (k f) e

  at : (trace : Option Event) (s : Stage) → x.stage ≡ s → TurnsAt s now x y mine trace → IsHeard x.wire trace what → IsLast what x lost shut
  at None s e t is = absurd (off-and-on (is_on x.wire what) is on)
  at (Some trace) Live e t is = (unlost (ap is_done e) lost refl, λ f. clash (is_live x.stage) (ap is_live e) (l f))
  at (Some trace) Lost e t is = (unlost (ap is_done e) lost refl, λ f. (is ∙ cc t.1, ap has_wire e))
  at (Some trace) Closing e t is = absurd (cc t.0)
  at (Some trace) Over e t is = absurd (cc t.1)

  go : (own : Option Event) → Listens now x y mine own → IsHeard x.wire own what → IsLast what x lost shut
  go own t is = at own x.stage refl t is

pub nothing-is-heard-after : NothingIsHeardAfter
nothing-is-heard-after addresses lane what answers calls bound now h wire on =
    let there : is_on wire what.event ≡ true = ap (λ n. is_on n what.event) (sym on.0) ∙ on-its-lane what.event on.1 in
    let m = dialed-mover addresses lane what answers calls bound now h wire there in
    let x = m.0 in
    let k : IsAfter calls x = each-dialed addresses IsAfter (new-after addresses) step-after calls h.0 h.1 h.2 x m.2 in
    let last = heard-last what.now what.event x m.1 (share x.wire answers) (is_lost_on x.wire calls) (is_shut_on x.wire calls) m.5 (ap (λ n. is_on n what.event) m.4 ∙ there) k.0 k.1 in
    let shut_before = wired addresses calls h.0 h.1 h.2 x m.2 in
    subst (λ n. (is_lost_on n calls ≡ false) × (is_shut_on n calls ≡ true → (what.event ≡ event.Lost n) × (was_shut_in n (answers_of calls) ≡ true))) m.4
    (last.0, λ e. ((last.1 e).0, shut_before ∙ ap not (last.1 e).1))
