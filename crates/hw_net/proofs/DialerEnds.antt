-- In a session of a dialer a lane is heard as lost for a cause, a wire is shut once, for a cause, and no more waits than may.
use Rattle.std.proofs.Common.{◌≡◌, ◌⊎◌, ◌≤◌, ◌==◌, ◌||◌, ◌++◌, ◌∷◌, [], ℕ, Bool, true, false, not, List, Option, None, Some, refl, sym, ap, ◌∙◌, subst, inl, inr, length, Contains, append-nil, append_assoc, ◌&&◌, is_some}
use Rattle.hw_door.specs.declared.heard.Address.{Address}
use Rattle.hw_door.specs.declared.heard.Event.TheVariants as event
use Rattle.hw_door.specs.declared.heard.Upgrade.{Upgrade}
use Rattle.hw_door.specs.Traffic.{Answer, read_on}
use Rattle.hw_net.specs.declared.protocol.Stage.TheVariants.{Live}
use Rattle.hw_net.specs.declared.limits.TheConstants.{MOST_UNWRITTEN}
use Rattle.hw_net.specs.Bounds.{IsWithin, has_wire}
use Rattle.hw_net.specs.Dialer.{DialerState, IsCutShort}
use Rattle.hw_net.specs.DialerSessions as dialer
use Rattle.hw_net.specs.DialerSessions.{DialedDrainedWereFull, DialedFullnessIsTold, DialedLanesAreBounded, DialedLanesHaveWires, DialedLossesHaveCauses, DialedWiresAreShutForACause, DialedWiresAreShutOnce, DialerCall, DialerSession, DoesDialed, DoesOnLane, UndialedAreMissed, all_on_wires, asked, cut, does, idle, is_cut, missed, missed_in, on_wires, text_of, undialed_in}
use Rattle.hw_net.specs.Lane.{Lane, dialed_lane}
use Rattle.hw_net.specs.Sessions as session
use Rattle.hw_net.specs.Sessions.{Call, IsGone, IsLostRightly, IsSpoiled, answers_in, answers_of, are_about, was_shut_in, was_full_on}
use Rattle.hw_net.specs.Turn.{Replies, Sends, Shuts}
use Rattle.hw_net.proofs.Bounding.{bystander-within, not-more, reply-within, send-within, shuts-one, turn-within}
use Rattle.hw_net.proofs.Closings.{ClosedBy, ShutLast, cause-of, closes-more, ends_by, last-append, last-of, none-after, none-before}
use Rattle.hw_net.proofs.DialerWalks.{before-on-wires, dialed-mover, each-dialed, each-on-wires, strides-in, untouched-dialed}
use Rattle.hw_net.proofs.Fillings.{IsTold, heeds-drained, step-told}
use Rattle.hw_net.proofs.Losses.{IsCaused, heeds-loss, loss-cause, step-caused, unlost}
use Rattle.hw_net.proofs.Moves.{Has, has-of}
use Rattle.hw_net.proofs.Owed.{by-number}
use Rattle.hw_net.proofs.Owning.{is_on}
use Rattle.hw_net.proofs.Shares.{equal, same, share, shut-share}
use Rattle.hw_net.proofs.Walks.{IsUntouched, Moves, moves-wire}

-- ---- losses

dialed-caused : (calls : List Call) (now wire : ℕ) (text : List ℕ) (upgrade : Option Upgrade) → IsUntouched wire calls → IsCaused calls (dialed_lane now wire text upgrade)
dialed-caused calls now wire text upgrade h lost = unlost Live Live refl refl lost

pub dialed-losses : DialedLossesHaveCauses
dialed-losses addresses lane what answers calls bound bound_after before after h d wire e =
    let m = dialed-mover addresses lane what answers calls bound_after after (bound, before, h, d) wire (ap (λ v. is_on wire v) e ∙ same wire) in
    let x = m.0 in
    let y = m.1 in
    let here : what.event ≡ event.Lost x.wire = e ∙ ap (λ n. event.Lost n) (sym m.4) in
    let caused = each-on-wires addresses IsCaused dialed-caused step-caused calls bound before h x m.2 in
    subst (λ n. ((x : Lane) × Contains after.door.lanes x × (x.wire ≡ n) × IsLostRightly what.now (answers_of (session.heard what answers ∷ all_on_wires calls)) x)
    ⊎ ((x : Lane) × Contains before.door.lanes x × (x.wire ≡ n) × (IsGone (read_on n answers) x.protocol ⊎ IsSpoiled x.protocol))) m.4
    (loss-cause what.now what answers (all_on_wires calls) x y before.door.lanes after.door.lanes bound m.3 (moves-wire (session.heard what answers) x y m.5) (inl m.2) caused
    (heeds-loss what.now what.event x y (share x.wire answers) here m.5))

-- ---- asks that went nowhere

lane-failed : (lane : ℕ) (call : Call) (before after : DialerState) → DoesOnLane lane call before after → after.failed ≡ before.failed
lane-failed lane (session.heard what answers) before after d = ap (λ (s : DialerState). s.failed) d.3
lane-failed lane (session.sent wire bytes text full answers) before after d = ap (λ (s : DialerState). s.failed) d.3
lane-failed lane (session.shut wire answers) before after d = ap (λ (s : DialerState). s.failed) d.2
lane-failed lane (session.wrote wire answers) before after d = ap (λ (s : DialerState). s.failed) d.1
lane-failed lane (session.replied wire reply answers) before after d = absurd d

pub undialed-missed : UndialedAreMissed
undialed-missed addresses [] bound now h = ap (λ (s : DialerState). s.failed) (sym h)
undialed-missed addresses (does lane call ∷ calls) bound now h = undialed-missed addresses calls h.0 h.1 h.2 ∙ ap (λ l. missed_in calls ++ l) (sym (lane-failed lane call h.1 now h.3.0))
undialed-missed addresses (asked ask None answers ∷ calls) bound now h =
    ap (λ l. l ++ ask.lane ∷ []) (undialed-missed addresses calls h.0 h.1 h.2) ∙ append_assoc (missed_in calls) h.1.failed (ask.lane ∷ [])
    ∙ ap (λ n. missed_in calls ++ (h.1.failed ++ n ∷ [])) h.3.0 ∙ ap (λ l. missed_in calls ++ l) (sym (ap (λ (s : DialerState). s.failed) h.3.3))
undialed-missed addresses (asked ask (Some wire) answers ∷ calls) bound now h =
    undialed-missed addresses calls h.0 h.1 h.2 ∙ ap (λ l. missed_in calls ++ l) (sym (ap (λ (s : DialerState). s.failed) h.3.3))
undialed-missed addresses (missed now lane answers ∷ calls) bound after h =
    undialed-missed addresses calls h.0 h.1 h.2 ∙ ap (λ l. missed_in calls ++ l) h.3.3 ∙ sym (append_assoc (missed_in calls) (lane ∷ []) h.3.2)
    ∙ ap (λ l. (missed_in calls ++ lane ∷ []) ++ l) (sym (ap (λ (s : DialerState). s.failed) h.3.6))
undialed-missed addresses (idle told ∷ calls) bound now h = undialed-missed addresses calls h.0 h.1 h.2 ∙ ap (λ l. missed_in calls ++ l) (sym (ap (λ (s : DialerState). s.failed) h.3.1))
undialed-missed addresses (cut answers ∷ calls) bound now h = undialed-missed addresses calls h.0 h.1 h.2 ∙ ap (λ l. missed_in calls ++ l) (sym (ap (λ (s : DialerState). s.failed) h.3.1))

-- ---- wires that are shut

-- the wire of a lane was shut if it has none any more, and its calls tell that it is done if it is
abbrev IsClosed : List Call → Lane → Type 0
IsClosed calls lane = ClosedBy (dialer.is_done_on lane.wire calls) lane.wire calls lane.stage

done-more : (wire : ℕ) (call : Call) (calls : List Call) → dialer.is_done_on wire (call ∷ calls) ≡ (ends_by wire call || dialer.is_done_on wire calls)
done-more wire (session.heard what answers) calls = refl
done-more wire (session.replied at reply answers) calls = refl
done-more wire (session.sent at bytes text full answers) calls = refl
done-more wire (session.shut at answers) calls = refl
done-more wire (session.wrote at answers) calls = refl

closed-here : (call : Call) (calls : List Call) (x y : Lane) → IsClosed calls x → Moves call x y → ClosedBy (dialer.is_done_on x.wire (call ∷ calls)) x.wire (call ∷ calls) y.stage
closed-here call calls x y k h =
    subst (λ b. ClosedBy b x.wire (call ∷ calls) y.stage) (sym (done-more x.wire call calls)) (closes-more (dialer.is_done_on x.wire calls) call calls x y k h)

step-closed : (call : Call) (calls : List Call) (x y : Lane) → IsClosed calls x → Moves call x y → IsClosed (call ∷ calls) y
step-closed call calls x y k h = subst (λ n. ClosedBy (dialer.is_done_on n (call ∷ calls)) n (call ∷ calls) y.stage) (sym (moves-wire call x y h)) (closed-here call calls x y k h)

dialed-closed : (calls : List Call) (now wire : ℕ) (text : List ℕ) (upgrade : Option Upgrade) → IsUntouched wire calls → IsClosed calls (dialed_lane now wire text upgrade)
dialed-closed calls now wire text upgrade h = (shut-share wire (answers_of calls) ∙ ap (λ l. was_shut_in wire l) h.answers, λ d. absurd (cc d))

pub wired : (addresses : List Address) (calls : List DialerCall) (bound : ℕ) (now : DialerState) → DialerSession addresses calls bound now → (lane : Lane) → Has now.door.lanes lane →
    was_shut_in lane.wire (answers_of (all_on_wires calls)) ≡ not (has_wire lane.stage)
wired addresses calls bound now h lane has = (each-on-wires addresses IsClosed dialed-closed step-closed calls bound now h lane has).0

pub dialed-have-wires : DialedLanesHaveWires
dialed-have-wires addresses calls bound now h lane has = wired addresses calls bound now h lane (has-of now.door.lanes lane has)

pub dialed-shut-for-a-cause : DialedWiresAreShutForACause
dialed-shut-for-a-cause addresses call calls bound now h wire e uncut =
    let step = strides-in addresses call calls bound now h in
    cause-of (dialer.is_done_on wire) (on_wires call) (all_on_wires calls) wire step.lanes now.door.lanes e step.on (λ none. (step.off wire none uncut).0)
    (λ x y has m at d. subst (λ n. dialer.is_done_on n (on_wires call ∷ all_on_wires calls) ≡ true) at
    ((closed-here (on_wires call) (all_on_wires calls) x y (before-on-wires addresses IsClosed dialed-closed step-closed call calls bound now h x has) m).1 d))

-- an ask that memory cut short shuts a wire on which nothing was done before
cut-last : (bound bound_after wire : ℕ) (answers before : List Answer) → IsCutShort bound bound_after answers → (bound ≤ wire → share wire before ≡ []) →
    ShutLast wire answers × (was_shut_in wire before ≡ true → are_about wire answers ≡ false)
cut-last bound bound_after wire answers before (inl h) none = (subst (λ (l : List Answer). ShutLast wire l) (sym h.0) tt, λ s. ap (λ l. are_about wire l) h.0)
cut-last bound bound_after wire answers before (inr h) none = (
  subst (λ (l : List Answer). ShutLast wire l) (sym h.1) (λ e. absurd (cc e), (λ e. refl, tt)),
  λ s. ap (λ l. are_about wire l) h.1 ∙ go (h.0 == wire) refl s,
) where
  go : (b : Bool) → (h.0 == wire) ≡ b → was_shut_in wire before ≡ true → (b || false) ≡ false
  go true e s = absurd (cc (sym (shut-share wire before ∙ ap (λ l. was_shut_in wire l) (none (late e))) ∙ s)) where
    late : (h.0 == wire) ≡ true → bound ≤ wire
    late e = subst (λ n. bound ≤ n) (equal h.0 wire e) h.2.0
  go false e s = refl

call-last : (addresses : List Address) (call : DialerCall) (calls : List DialerCall) (bound : ℕ) (now : DialerState) (h : DialerSession addresses (call ∷ calls) bound now) (wire : ℕ) →
    ShutLast wire (answers_in (on_wires call)) × (was_shut_in wire (answers_of (all_on_wires calls)) ≡ true → are_about wire (answers_in (on_wires call)) ≡ false)
call-last addresses call calls bound now h wire = go call h refl where
  usual : is_cut call ≡ false → ShutLast wire (answers_in (on_wires call)) × (was_shut_in wire (answers_of (all_on_wires calls)) ≡ true → are_about wire (answers_in (on_wires call)) ≡ false)
  usual uncut =
      let step = strides-in addresses call calls bound now h in
      last-of (on_wires call) (all_on_wires calls) wire step.lanes now.door.lanes step.on (λ none. (step.off wire none uncut).0)
      (λ x has. (before-on-wires addresses IsClosed dialed-closed step-closed call calls bound now h x has).0)

  go : (c : DialerCall) → DialerSession addresses (c ∷ calls) bound now → call ≡ c →
      ShutLast wire (answers_in (on_wires call)) × (was_shut_in wire (answers_of (all_on_wires calls)) ≡ true → are_about wire (answers_in (on_wires call)) ≡ false)
  go (cut answers) k e =
      subst (λ (c : DialerCall). ShutLast wire (answers_in (on_wires c)) × (was_shut_in wire (answers_of (all_on_wires calls)) ≡ true → are_about wire (answers_in (on_wires c)) ≡ false)) (sym e)
      (cut-last k.0 bound wire answers (answers_of (all_on_wires calls)) k.3.0 (λ le. (untouched-dialed addresses calls k.0 k.1 wire k.2 le).answers))
  go (does lane c) k e = usual (ap is_cut e)
  go (asked ask o answers) k e = usual (ap is_cut e)
  go (missed at lane answers) k e = usual (ap is_cut e)
  go (idle told) k e = usual (ap is_cut e)

all-last : (addresses : List Address) (calls : List DialerCall) (bound : ℕ) (now : DialerState) (wire : ℕ) → DialerSession addresses calls bound now → ShutLast wire (answers_of (all_on_wires calls))
all-last addresses [] bound now wire h = tt
all-last addresses (call ∷ calls) bound now wire h =
    let last = call-last addresses call calls bound now h wire in
    last-append wire (answers_of (all_on_wires calls)) (answers_in (on_wires call)) (all-last addresses calls h.0 h.1 wire h.2) last.0 last.1

pub dialed-shut-once : DialedWiresAreShutOnce
dialed-shut-once addresses calls bound now h wire before after e =
    let last = subst (λ (l : List Answer). ShutLast wire l) e (all-last addresses calls bound now wire h) in (none-before wire before after last, none-after wire before after last)

-- ---- what waits

moves-within : (call : Call) (x y : Lane) → IsWithin x → Moves call x y → IsWithin y
moves-within (session.heard what answers) x y k (inl h) = turn-within what.now None x y (share x.wire answers) h.0 k h.1
moves-within (session.heard what answers) x y k (inr h) = bystander-within what.now x y (share x.wire answers) k h.0
moves-within (session.replied at reply answers) x y k h =
    by-number at (Replies h.0 reply) x y (share x.wire answers) (λ b. IsWithin y) (λ s. reply-within h.0 reply x y (share x.wire answers) s k) (λ e f. subst IsWithin (sym e) k) h.1
moves-within (session.sent at bytes text full answers) x y k h =
    by-number at (Sends h.0 bytes text) x y (share x.wire answers) (λ b. IsWithin y) (λ s. send-within h.0 bytes text x y (share x.wire answers) s k) (λ e f. subst IsWithin (sym e) k) h.1
moves-within (session.shut at answers) x y k h =
    by-number at (Shuts h.0) x y (share x.wire answers) (λ b. IsWithin y) (λ s. shuts-one h.0 x y (share x.wire answers) s k) (λ e f. subst IsWithin (sym e) k) h.1
moves-within (session.wrote at answers) x y k h = bystander-within 0 x y (share x.wire answers) k h

pub dialed-bounded : DialedLanesAreBounded
dialed-bounded addresses calls bound now h lane has =
    each-dialed addresses (λ all (l : Lane). IsWithin l)
    (λ ask wire answers all moment y fresh little m. bystander-within 0 (dialed_lane moment wire (text_of addresses ask) ask.upgrade) y (share wire answers)
    (λ w. subst (λ (l : List ℕ). length l ≤ MOST_UNWRITTEN) (sym (append-nil (text_of addresses ask))) (not-more (length (text_of addresses ask)) little)) m)
    (λ call all x y other k m. moves-within (on_wires call) x y k m) calls bound now h lane (has-of now.door.lanes lane has)

-- ---- lanes that are full

dialed-told : (calls : List Call) (now wire : ℕ) (text : List ℕ) (upgrade : Option Upgrade) → IsUntouched wire calls → IsTold calls (dialed_lane now wire text upgrade)
dialed-told calls now wire text upgrade h live = sym h.full

pub dialed-full : DialedFullnessIsTold
dialed-full addresses calls bound now h lane has live =
    ap (λ b. b && is_some lane.full) live ∙ each-on-wires addresses IsTold dialed-told step-told calls bound now h lane (has-of now.door.lanes lane has) live

pub dialed-drained : DialedDrainedWereFull
dialed-drained addresses lane what answers calls bound now h wire e =
    let m = dialed-mover addresses lane what answers calls bound now h wire (ap (λ v. is_on wire v) e ∙ same wire) in
    let x = m.0 in
    let told : IsTold (all_on_wires calls) x = each-on-wires addresses IsTold dialed-told step-told calls h.0 h.1 h.2 x m.2 in
    let was = heeds-drained what.now what.event x m.1 (share x.wire answers) (e ∙ ap (λ n. event.Drained n) (sym m.4)) m.5 in
    subst (λ n. was_full_on n (all_on_wires calls) ≡ true) m.4 (sym (told was.0) ∙ was.1)
