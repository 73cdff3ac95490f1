-- A deed that is carried out in a round: the round goes on, and the turns that jobs had and the calls that began them are as before.
use Rattle.std.proofs.Common.{◌≡◌, ℕ, ◌<◌, Bool, true, false, List, ◌∷◌, Option, Some, None, refl, sym, ap, subst, arith}
use Rattle.std.specs.Prelude.{nat_le, ◌&&◌, ◌==◌, is_some, if◌then◌else◌}
use Rattle.std.proofs.lemmas.Bool.{lt-leb}
use Rattle.hd_calls.specs.declared.vocabulary.Deed.{Deed}
use Rattle.hd_calls.specs.Hubs.{Invoked}
use Rattle.hd_calls.specs.Peers.{PeerEvent, Answers, Settings, begun}
use Rattle.hd_calls.specs.Rules.{passed}
use Rattle.hd_rooms.specs.declared.vocabulary.Asked.{Asked}
use Rattle.hd_server.specs.Machine.{MachineEvent, Carries, DeliveryOutcome, Got, TooSlow, PassedOver, IsAskedFor, MayFollow}
use Rattle.hd_server.specs.Machine.{answer_to, outcome_in, fates_of, is_there, last_turn, moves, notifies, owed, settings_of, turn_at, who_of, with_fate}
use Rattle.hub_machine.specs.Rounds.{AtDeed, InRound, has_turn}

-- ---- what a peer did

-- the turns that its jobs had, and the calls that began them
abbrev pub RanAlike : List PeerEvent → List PeerEvent → Type 0
RanAlike g h = (passed g ≡ passed h) × (begun g ≡ begun h)

notified_alike : (call : Option Invoked) (h : List PeerEvent) → RanAlike (notifies call h) h
notified_alike None h = (refl, refl)
notified_alike (Some call) h = (refl, refl)

told_alike : (d : Deed) (t : Option Settings) (fate : Option DeliveryOutcome) (h : List PeerEvent) → RanAlike (with_fate d t fate h) h
told_alike d None fate h = (refl, refl)
told_alike d (Some t) None h = (refl, refl)
told_alike d (Some t) (Some Got) h = notified_alike _ h
told_alike d (Some t) (Some TooSlow) h = (refl, refl)
told_alike d (Some t) (Some PassedOver) h = (refl, refl)

answered_alike : (b : Bool) (m g h : List PeerEvent) → RanAlike m h → RanAlike g h → RanAlike (if b then m else g) h
answered_alike true m g h x y = x
answered_alike false m g h x y = y

pub carried_alike : (k c j : ℕ) (d : Deed) (fates : List (ℕ × DeliveryOutcome)) (asked : Option Asked) (h : List MachineEvent)
    → RanAlike (moves k (Carries c j d fates asked ∷ h)) (moves k h)
carried_alike k c j d fates asked h =
    let told : RanAlike (with_fate d (settings_of k h) (outcome_in k fates) (moves k h)) (moves k h)
    = told_alike d (settings_of k h) (outcome_in k fates) (moves k h) in
    answered_alike (k == c) (Answers j (answer_to c d asked h) ∷ with_fate d (settings_of k h) (outcome_in k fates) (moves k h))
    (with_fate d (settings_of k h) (outcome_in k fates) (moves k h)) (moves k h) told told

-- ---- the round

-- connections before the one that had the last turn have none
pub none_before_last : (k c : ℕ) (r : List MachineEvent) → last_turn r ≡ c → k < c → has_turn k r ≡ false
none_before_last k c r e l =
    let past : nat_le (last_turn r) k ≡ false = lt-leb (last_turn r) k (omega (arith, e, l)) in
    ap (λ (b : Bool). b && (is_there k r && is_some (turn_at k r))) past

-- the round goes on with the deed
pub carried_on : (now : ℕ) (w r : List MachineEvent) (c j : ℕ) (d : Deed) (asked : Option Asked) → AtDeed now w r c j d
    → IsAskedFor d (who_of (settings_of c r)) asked → InRound now w (Carries c j d (fates_of d r) asked ∷ r) c
carried_on now w r c j d asked at is_asked = record {
  of_round = record {
    since = Carries c j d (fates_of d r) asked ∷ at.of_round.since;
    are = ap (λ xs. Carries c j d (fates_of d r) asked ∷ xs) at.of_round.are;
    each = (
      at.of_round.each,
      subst (λ xs. MayFollow now (owed xs) xs (Carries c j d (fates_of d r) asked)) at.of_round.are
          (subst (λ o. MayFollow now o r (Carries c j d (fates_of d r) asked)) (sym at.owes) (asked, is_asked, refl)),
    );
  };
  settled = refl;
  last = let is = at.last in omega (arith, is);
  none_before = λ k l. none_before_last k c (Carries c j d (fates_of d r) asked ∷ r) at.last l;
}
