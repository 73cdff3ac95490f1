-- Moves of one connection's peer ask nothing of the keeper, and nothing is spelled for them.
use Rattle.std.proofs.Common.{◌≡◌, ℕ, List, [], ◌∷◌, refl}
use Rattle.hd_calls.specs.Peers.{PeerEvent}
use Rattle.hd_server.specs.Machine.{MachineEvent}
use Rattle.hub_machine.specs.Calls.{doing}
use Rattle.hub_machine.specs.KeeperState.{KeeperState, HasAnsweredDuring, asks_in, spellings}
use Rattle.hub_machine.proofs.Asks.{goes_same}

asks_doing : (c : ℕ) (ms : List PeerEvent) (w : List MachineEvent) → asks_in (doing c ms w) ≡ asks_in w
asks_doing c [] w = refl
asks_doing c (m ∷ ms) w = asks_doing c ms w

spellings_doing : (c : ℕ) (ms : List PeerEvent) (w : List MachineEvent) → spellings (doing c ms w) ≡ spellings w
spellings_doing c [] w = refl
spellings_doing c (m ∷ ms) w = spellings_doing c ms w

-- so what is outside stays as it is
pub goes_doing : (o : KeeperState) (c : ℕ) (ms : List PeerEvent) (w : List MachineEvent) → HasAnsweredDuring o o w (doing c ms w)
goes_doing o c ms w = goes_same o w (doing c ms w) (asks_doing c ms w) (spellings_doing c ms w)
