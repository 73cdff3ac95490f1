-- What the machine stands for when a connection has gone.
use Rattle.std.proofs.Common.{◌≡◌, ◌≤◌, ℕ, ◌==◌, Bool, true, false, not, ◌&&◌, ◌||◌, List, ◌∷◌, Option, Some, None, is_some, refl, sym, ap}
use Rattle.std.proofs.Common.{subst, ◌∙◌}
use Rattle.std.specs.Prelude.{if◌then◌else◌}
use Rattle.std.proofs.lemmas.Bool.{eqb-true, eq-eqb, cond-true}
use Rattle.std.specs.Ordering.{nat_cmp}
use Rattle.std.specs.BTreeMap.{Updates, btree_map_len}
use Rattle.hd_calls.specs.Hubs.{Hub}
use Rattle.hd_calls.specs.Peers.{Settings}
use Rattle.hd_rooms.specs.Registry.{Lists, gone}
use Rattle.hg_groups.specs.Standing.{StandsRegistry}
use Rattle.hd_server.specs.Machine.{MachineEvent, Goes, has_gone, is_open, is_open_at, moves, registry, settings_of}
use Rattle.hp_peer.specs.declared.peer.Peer.{Peer}
use Rattle.hub_machine.specs.declared.machine.Machine.{Machine}
use Rattle.hub_machine.specs.declared.idle_set.IdleClock.{IdleClock}
use Rattle.hub_machine.specs.Machines.{IsKeptAs, IsPeerOf, IsStranger, StandsMachine, idle_peer_at, peer_at, settings_there}
use Rattle.hub_machine.specs.IdleSet.{Changes, IsKept}
use Rattle.hub_machine.proofs.Awake.{each_kept, index_gone}
use Rattle.hub_machine.proofs.Open.{OthersOpen, registry_closed}
use Rattle.hub_machine.proofs.Doing.{apart, open_by, there_is}
use Rattle.hub_machine.proofs.Ends.{unstood}
use Rattle.hub_machine.proofs.Ends as ends

-- one that is there has a peer
pub has_peer : {H Job : Type 0} (hub : Hub Job) (m : Machine H Job) (w : List MachineEvent) (c : ℕ) (t : Settings)
    → StandsMachine {H = H} hub m w → settings_there c w ≡ Some t → false ≡ is_some (peer_at m c) → ⊥
has_peer {H} {Job} hub m w c t s there e = unstood {H = H} {Job = Job} hub m w c t s there (go (peer_at m c) e)
  where
    go : (o : Option (Peer H Job)) → false ≡ is_some o → None ≡ o
    go None e = refl
    go (Some p) e = absurd (cc)

module _ {H Job : Type 0} (hub : Hub Job) (old new : Machine H Job) (w : List MachineEvent) (c : ℕ) (t : Settings)
    (s : StandsMachine {H = H} hub old w) (there : settings_there c w ≡ Some t) (updates : Updates nat_cmp old.peers new.peers c None)
    (fewer : btree_map_len new.peers ≤ btree_map_len old.peers) (changes : IsKept old.idle_set → Changes old.idle_set new.idle_set c None false)
    (leaves : (l : Lists) → StandsRegistry old.registry l → StandsRegistry new.registry (gone l c)) where
  abbrev after : List MachineEvent
  after = Goes c ∷ w

  -- neither it nor its nap is kept
  changed : Changes old.idle_set new.idle_set c None false
  changed = changes s.index.kept

  has_gone_now : has_gone c after ≡ true
  has_gone_now = ap (λ b. b || has_gone c w) (eq-eqb c c refl)

  others : (k : ℕ) → (c == k) ≡ false → has_gone k after ≡ has_gone k w
  others k e = ap (λ b. b || has_gone k w) (apart c k e)

  here : IsPeerOf {H = H} hub (settings_there c after) (moves c w) None
  here = subst (λ o. IsPeerOf {H = H} hub o (moves c w) None) (sym (cond-true (has_gone c after) None (settings_of c w) has_gone_now)) tt

  others_kept : (k : ℕ) → (c == k) ≡ false
      → IsKeptAs {H = H} hub old.idle_set.clock (idle_peer_at old k) (settings_there k after) (moves k w) (peer_at old k)
  others_kept k e =
      subst (λ b. IsKeptAs {H = H} hub old.idle_set.clock (idle_peer_at old k) (if b then None else settings_of k w) (moves k w) (peer_at old k))
      (sym (others k e)) (s.at k)

  strangers_each : (k : ℕ) → settings_of k w ≡ None → (b : Bool) → (c == k) ≡ b → IsStranger k after
  strangers_each k e true f =
      absurd (let z : ◌≡◌ {A = Option Settings} (Some t) None = sym (there_is c w t there).1 ∙ ap (λ n. settings_of n w) (eqb-true c k f) ∙ e in cc)
  strangers_each k e false f =
      let was = s.strangers k e in
      record { unknown = others k f ∙ was.unknown; unmoved = was.unmoved; in_no_group = was.in_no_group }

  shut : is_open c after ≡ false
  shut = ap (λ b. not b && is_open_at (settings_of c w) (moves c w)) has_gone_now

  others_open : OthersOpen c w after
  others_open k e = open_by (has_gone k after) (has_gone k w) (settings_of k w) (settings_of k w) (moves k w) (moves k w) (others k e) refl refl

  -- it has no peer, and left everything
  pub goes : StandsMachine {H = H} hub new after
  goes = record {
    at = each_kept {H = H} {Job = Job} hub old new c None None false changed updates.1 (λ k e. updates.2 k (ends.apart c k e))
        (λ k. settings_there k after) (λ k. moves k w) others_kept here;
    index = index_gone {H = H} {Job = Job} old new c s.index changed updates fewer;
    rounds = ap (λ (k : IdleClock). k.rounds) changed.clock ∙ s.rounds;
    registry = subst (λ l. StandsRegistry new.registry l) (sym (registry_closed c w after refl refl shut others_open)) (leaves (registry w) s.registry);
    peers = s.peers;
    said = s.said;
    strangers = λ k e. strangers_each k e (c == k) refl;
    from_one = s.from_one;
  }
