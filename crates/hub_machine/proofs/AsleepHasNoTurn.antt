-- A connection that isn't awake has no turn: it isn't there, or it sleeps, and no job of it is due.
use Rattle.std.proofs.Common.{◌≡◌, ℕ, zero, suc, ◌-◌, Bool, true, false, not, List, ◌∷◌, length}
use Rattle.std.proofs.Common.{Option, Some, None, is_some, refl, sym, ap, ◌∙◌, true≢false}
use Rattle.std.specs.Prelude.{◌&&◌, nat_le, if◌then◌else◌}
use Rattle.std.proofs.lemmas.Bool.{and_right}
use Rattle.hd_calls.specs.Hubs.{Hub}
use Rattle.hd_calls.specs.Peers.{PeerEvent, Settings, begun}
use Rattle.hd_calls.specs.Rules.{IsPeerDue, first_from, is_due, next_job, passed}
use Rattle.hd_server.specs.Laws.{TurnsAreTested}
use Rattle.hd_server.specs.Machine.{MachineEvent, Rounds, has_gone, is_there, last_turn, may_turn, moves, settings_of, turn_with}
use Rattle.hp_peer.specs.declared.peer.Peer.{Peer}
use Rattle.hub_machine.specs.declared.machine.Machine.{Machine}
use Rattle.hub_machine.specs.declared.idle_set.IdleClock.{IdleClock}
use Rattle.hub_machine.specs.declared.idle_set.IdlePeer.{IdlePeer}
use Rattle.hub_machine.specs.Machines.{IsKeptAs, StandsMachine, is_awake_at, idle_peer_at, peer_at, settings_there}
use Rattle.hub_machine.specs.Rounds.{has_turn}
use Rattle.hub_machine.specs.IdleSet.{after_round, is_awake_in}
use Rattle.hub_machine.proofs.TurnFirst.{here_of, none_gone}
use Rattle.hub_machine.proofs.Unmoved.{HasBegunAs, kept_at}

-- ---- jobs

-- the test holds of the number that is found
pub holds_of : (u k j : ℕ) (p : ℕ → Bool) → first_from k u p ≡ Some j → p j ≡ true
holds_of zero k j p e = absurd (let z : ◌≡◌ {A = Option ℕ} None (Some j) = e in cc)
holds_of (suc u) k j p e = by (p k) refl e (holds_of u (suc k) j p)
  where
    by : (b : Bool) → p k ≡ b → (if b then Some k else first_from (suc k) u p) ≡ Some j → (first_from (suc k) u p ≡ Some j → p j ≡ true) → p j ≡ true
    by true f e later = let is : Some k ≡ Some j = e in let same : k ≡ j = cc in ap p (sym same) ∙ f
    by false f e later = later e

-- where no job of a peer is due none has a turn
undue_turnless : TurnsAreTested → (t : Settings) (h : List PeerEvent) → (IsPeerDue t h → ⊥) → turn_with (Some t) h ≡ None
undue_turnless tested t h undue = by (may_turn t h) refl (next_job t h) refl
  where
    by : (b : Bool) → may_turn t h ≡ b → (next : Option ℕ) → next_job t h ≡ next → (if b then next else None) ≡ None
    by true e (Some j) f = absurd (undue ((tested t h).0 e, (j, holds_of (length (begun h) - passed h) (passed h) j (λ i. is_due t i h) f)))
    by true e None f = refl
    by false e next f = refl

-- ---- connections

module _ {H Job : Type 0} (hub : Hub Job) (tested : TurnsAreTested) where
  -- one that isn't awake has none
  kept_turnless : (clock : IdleClock) (c : ℕ) (v : List MachineEvent) (idle_peer : Option IdlePeer) (o : Option Settings) (p : Option (Peer H Job)) → settings_there c v ≡ o
      → IsKeptAs {H = H} hub clock idle_peer o (moves c v) p → (is_some p && not (is_some idle_peer)) ≡ false → has_turn c v ≡ false
  kept_turnless clock c v idle_peer None p e kept unawake = none_gone c v e
  kept_turnless clock c v None (Some t) None e kept unawake = absurd kept
  kept_turnless clock c v None (Some t) (Some p) e kept unawake = absurd (true≢false unawake)
  kept_turnless clock c v (Some idle_peer) (Some t) None e kept unawake = absurd kept
  kept_turnless clock c v (Some idle_peer) (Some t) (Some p) e kept unawake =
      and_right (nat_le (last_turn v) c) _ (and_right (is_there c v) _ (ap is_some
      (ap (λ s. turn_with s (moves c v)) (here_of c t v e).begun ∙ undue_turnless tested t (moves c v) kept.may.undue)))

  -- so it has in a round
  pub unawake_turnless : (m : Machine H Job) (w : List MachineEvent) (c : ℕ) → StandsMachine {H = H} hub m w → is_awake_at m c ≡ false
      → has_turn c w ≡ false
  unawake_turnless m w c s unawake =
      kept_turnless m.idle_set.clock c w (idle_peer_at m c) (settings_there c w) (peer_at m c) refl (s.at c) unawake

  -- a round that begins leaves its peer as it is
  begun_unawake : (idle_peer : Option IdlePeer) (p : Option (Peer H Job)) → (is_some p && not (is_some idle_peer)) ≡ false → HasBegunAs {H = H} hub idle_peer p p
  begun_unawake None None unawake = tt
  begun_unawake None (Some p) unawake = absurd (true≢false unawake)
  begun_unawake (Some idle_peer) p unawake = refl

  -- and so it has none in one that begins now
  pub unawake_idle : (m : Machine H Job) (w : List MachineEvent) (now c : ℕ) → StandsMachine {H = H} hub m w → is_awake_at m c ≡ false
      → has_turn c (Rounds now ∷ w) ≡ false
  unawake_idle m w now c s unawake =
      kept_turnless (after_round m.idle_set.clock) c (Rounds now ∷ w) (idle_peer_at m c) (settings_there c w) (peer_at m c) refl
      (kept_at {H = H} {Job = Job} hub m.idle_set.clock (idle_peer_at m c) (has_gone c w) (settings_of c w) (peer_at m c) (peer_at m c) (moves c w) (s.at c)
      (begun_unawake (idle_peer_at m c) (peer_at m c) unawake))
      unawake

  -- by the list of those that are awake
  pub unlisted_turnless : (m : Machine H Job) (w : List MachineEvent) (c : ℕ) → StandsMachine {H = H} hub m w → is_awake_in m.idle_set c ≡ false
      → has_turn c w ≡ false
  unlisted_turnless m w c s e = unawake_turnless m w c s (sym (s.index.awake c) ∙ e)
