-- A machine that stands for how things stand also stands for what says the same of each connection.
use Rattle.std.proofs.Common.{◌≡◌, ℕ, List, Option, subst}
use Rattle.hd_calls.specs.Hubs.{Hub}
use Rattle.hd_calls.specs.Peers.{PeerEvent, Settings}
use Rattle.hg_groups.specs.Standing.{StandsRegistry}
use Rattle.hp_peer.specs.declared.peer.Peer.{Peer}
use Rattle.hub_machine.specs.declared.machine.Machine.{Machine}
use Rattle.hub_machine.specs.declared.idle_set.IdleClock.{IdleClock}
use Rattle.hub_machine.specs.declared.idle_set.IdlePeer.{IdlePeer}
use Rattle.hub_machine.specs.MachineView.{MachineView, AreSame, StandsFor}
use Rattle.hub_machine.specs.Machines.{IsKeptAs, idle_peer_at, peer_at}

-- one connection, whose settings and moves are called by other names
same_kept : {H Job : Type 0} (hub : Hub Job) (clock : IdleClock) (idle_peer : Option IdlePeer) (p : Option (Peer H Job)) (s t : Option Settings) (g h : List PeerEvent) → s ≡ t → g ≡ h
    → IsKeptAs {H = H} hub clock idle_peer s g p → IsKeptAs {H = H} hub clock idle_peer t h p
same_kept {H} hub clock idle_peer p s t g h e f x =
    subst (λ (u : Option Settings). IsKeptAs {H = H} hub clock idle_peer u h p) e (subst (λ (k : List PeerEvent). IsKeptAs {H = H} hub clock idle_peer s k p) f x)

pub same_stands : {H Job : Type 0} (hub : Hub Job) (m : Machine H Job) (a b : MachineView) → AreSame a b → StandsFor {H = H} hub m a
    → StandsFor {H = H} hub m b
same_stands {H} hub m a b e x = record {
  at = λ c. same_kept {H = H} hub m.idle_set.clock (idle_peer_at m c) (peer_at m c) (a.settings c) (b.settings c) (a.moves c) (b.moves c) (e.settings c) (e.moves c) (x.at c);
  index = x.index;
  registry = subst (λ l. StandsRegistry m.registry l) e.lists x.registry;
}
