-- What holds of the happenings of a machine, in the words of these definitions.
use Rattle.std.specs.Prelude.{◌≡◌, ◌<◌, ◌≤◌, ℕ, Bool, true, false, List, ◌++◌, Some, None, find}
use Rattle.hd_calls.specs.Peers.{PeerEvent, Settings}
use Rattle.hd_server.specs.Machine.{MachineEvent, connections, greatest, is_there, moves, settings_of}
use Rattle.hub_machine.specs.Calls.{doing}

-- connections are numbered from 1 to the greatest, where none has the number 0
abbrev pub ConnectionsAreNumbered : Type 0
ConnectionsAreNumbered = (c : ℕ) (t : Settings) (w : List MachineEvent) → settings_of 0 w ≡ None → settings_of c w ≡ Some t
    → (0 < c) × (c ≤ greatest w)

-- of those that are there none is found where none passes the test, and one that passes if no other does
pub record FindsOne (p : ℕ → Bool) (w : List MachineEvent) : Type 0 where
  pub none : ((k : ℕ) → is_there k w ≡ true → p k ≡ false) → find p (connections w) ≡ None
  pub one : (c : ℕ) → is_there c w ≡ true → p c ≡ true → ((k : ℕ) → is_there k w ≡ true → p k ≡ true → k ≡ c) → find p (connections w) ≡ Some c

abbrev pub ConnectionsAreFound : Type 0
ConnectionsAreFound = (p : ℕ → Bool) (w : List MachineEvent) → settings_of 0 w ≡ None → FindsOne p w

-- a connection did what it did before, and then these
abbrev pub MovesComeFirst : Type 0
MovesComeFirst = (c : ℕ) (ms : List PeerEvent) (w : List MachineEvent) → moves c (doing c ms w) ≡ ms ++ moves c w
