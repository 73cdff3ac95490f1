-- A connection wakes: its peer stands for all that it did, and all else is as it was.
use Rattle.std.proofs.Common.{◌≡◌, ℕ, Bool, true, ◌&&◌, List, Option, Some, None, is_some, refl, sym, ap, subst, ◌∙◌}
use Rattle.std.specs.Ordering.{nat_cmp}
use Rattle.std.specs.BTreeMap.{BTreeMap, WritesThrough}
use Rattle.hd_calls.specs.Hubs.{Hub}
use Rattle.hd_calls.specs.Peers.{PeerEvent, Settings}
use Rattle.hd_server.specs.Machine.{MachineEvent, moves}
use Rattle.hv_value.specs.SortedSet.{HasPlace}
use Rattle.hp_peer.specs.declared.peer.Peer.{Peer}
use Rattle.hp_peer.specs.Stands.{Stands}
use Rattle.hub_machine.specs.declared.machine.Machine.{Machine}
use Rattle.hub_machine.specs.declared.idle_set.IdleClock.{IdleClock}
use Rattle.hub_machine.specs.declared.idle_set.IdlePeer.{IdlePeer}
use Rattle.hub_machine.specs.declared.idle_set.IdleSet.{IdleSet}
use Rattle.hub_machine.specs.MachineView.{MachineView, StandsFor}
use Rattle.hub_machine.specs.Machines.{IsIndexed, IsKeptAs, IsPeerOf, Sleeps, StandsMachine, idle_peer_at, peer_at, settings_there}
use Rattle.hub_machine.specs.IdleSet.{Changes, IsKept}
use Rattle.hub_machine.proofs.Awake.{each_kept, has_place, index_changed, kept_by}
use Rattle.hub_machine.proofs.Doing.{KeepsIdleSet, PutsPeer}
use Rattle.hub_machine.proofs.Ends.{keeps, written}

-- ---- it wakes

-- the peer that lagged behind stands for all that was done
wakes_as : {H Job : Type 0} (hub : Hub Job) (clock : IdleClock) (idle_peer : IdlePeer) (p q : Peer H Job)
    → ((t : Settings) (h : List PeerEvent) → Sleeps {H = H} hub clock idle_peer t p h → Stands {H = H} hub t q h)
    → (t : Option Settings) (h : List PeerEvent) → IsKeptAs {H = H} hub clock (Some idle_peer) t h (Some p) → IsPeerOf {H = H} hub t h (Some q)
wakes_as hub clock idle_peer p q f None h k = absurd k
wakes_as hub clock idle_peer p q f (Some t) h k = f t h k

module _ {H Job : Type 0} (hub : Hub Job) (old : Machine H Job) (c : ℕ) (p q : Peer H Job) (idle_peer : IdlePeer) (ps : BTreeMap ℕ (Peer H Job)) (ss : IdleSet)
    (at : Some p ≡ peer_at old c) (through : WritesThrough nat_cmp (nat_cmp c) old.peers q ps) (napping : Some idle_peer ≡ idle_peer_at old c)
    (wakes : IsKept old.idle_set → HasPlace old.idle_set.awake c → Changes old.idle_set ss c None true)
    (catches : (t : Settings) (h : List PeerEvent) → Sleeps {H = H} hub old.idle_set.clock idle_peer t p h → Stands {H = H} hub t q h) where
  abbrev awoken : Machine H Job
  awoken = record old { peers = ps; idle_set = ss }

  puts : PutsPeer {H = H} old (record old { peers = ps }) c q
  puts = written {H = H} {Job = Job} old (record old { peers = ps }) c p q at through

  same : KeepsIdleSet {H = H} old (record old { peers = ps })
  same = keeps {H = H} {Job = Job} old (record old { peers = ps }) c p q at through refl

  changes : IsIndexed {H = H} old → Changes old.idle_set ss c None true
  changes index = wakes index.kept (has_place {H = H} {Job = Job} old index c (sym (ap is_some at)) (sym (ap is_some napping)))

  indexed : IsIndexed {H = H} old → IsIndexed {H = H} awoken
  indexed index =
      index_changed {H = H} {Job = Job} old awoken c None true index (changes index) same.count same.there
      (sym (ap (λ o. is_some o && true) puts.at))

  kept : IsIndexed {H = H} old → (t : ℕ → Option Settings) (h : ℕ → List PeerEvent)
      → ((k : ℕ) → IsKeptAs {H = H} hub old.idle_set.clock (idle_peer_at old k) (t k) (h k) (peer_at old k))
      → (k : ℕ) → IsKeptAs {H = H} hub ss.clock (idle_peer_at awoken k) (t k) (h k) (peer_at awoken k)
  kept index t h were =
      each_kept {H = H} {Job = Job} hub old awoken c (Some q) None true (changes index) puts.at puts.others t h (λ k e. were k)
      (wakes_as {H = H} {Job = Job} hub old.idle_set.clock idle_peer p q catches (t c) (h c)
      (kept_by {H = H} {Job = Job} hub old.idle_set.clock old.idle_set.clock (idle_peer_at old c) (Some idle_peer) (peer_at old c) (Some p) (t c) (h c)
      refl napping at (were c)))

  pub woke : (w : List MachineEvent) → StandsMachine {H = H} hub old w → StandsMachine {H = H} hub awoken w
  woke w s = record {
    at = kept s.index (λ k. settings_there k w) (λ k. moves k w) s.at;
    index = indexed s.index;
    rounds = ap (λ (k : IdleClock). k.rounds) (changes s.index).clock ∙ s.rounds;
    registry = s.registry;
    peers = s.peers;
    said = s.said;
    strangers = s.strangers;
    from_one = s.from_one;
  }

  pub woke_for : (a : MachineView) → StandsFor {H = H} hub old a → StandsFor {H = H} hub awoken a
  woke_for a s = record { at = kept s.index a.settings a.moves s.at; index = indexed s.index; registry = s.registry }
