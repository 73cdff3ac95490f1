-- How a replay goes along a script with peers: the two peers that stand for the actions that were read, and the lines that tell of them.
use Rattle.std.specs.Prelude.{◌≡◌, ℕ, true, List, [], ◌++◌}
use Rattle.hd_delivery.specs.Bytes.{Wire}
use Rattle.he_wire.specs.Wires.{IsHouseWire}
use Rattle.hd_calls.specs.PeerWorlds.{Pair}
use Rattle.sr_script.specs.declared.action.Action.{Action}
use Rattle.sr_script.specs.declared.line.Asked.{Asked}
use Rattle.sr_script.specs.declared.line.Asked.TheVariants as asked
use Rattle.sr_script.specs.Script.{Program, Parses}
use Rattle.sr_notation.specs.Terms.{limits_in, peers_in}
use Rattle.sr_peers.specs.declared.peers.Peers.{Peers}
use Rattle.sr_peers.specs.Runs.{Run, TellsRun}
use Rattle.sr_peers.specs.Follows.{Follows, GoesOn, IsOfPeers}
use Rattle.sr_peers.specs.Report.{pair_in}

-- the text is no script without peers
abbrev pub IsWithPeers : List ℕ → Type 0
IsWithPeers text = (p : Program) → Parses text p → peers_in p.settings ≡ true

-- two peers can do what the line asks for
abbrev pub IsForPeers : Asked → Type 0
IsForPeers (asked.Setting s) = Unit {0}
IsForPeers (asked.Action a) = IsOfPeers a

-- an option changes nothing any more, and an action is done and told
abbrev pub PeersObey : Peers → Asked → Peers → List ℕ → List ℕ → Type 0
PeersObey old (asked.Setting s) new before after = (new ≡ old) × (after ≡ before)
PeersObey old (asked.Action a) new before after = GoesOn old a new before after

-- the peers stand for a run of these actions, and its lines were appended
abbrev pub HasTold : Pair → List Action → Peers → List ℕ → List ℕ → Type 0
HasTold p actions peers before after = (r : Run) × (lines : List ℕ) × (Follows p actions r peers × TellsRun p [] r lines × (after ≡ before ++ lines))

-- two peers that stood for no action stand for these, which were told
abbrev pub PeersActAll : Peers → List Action → Peers → List ℕ → List ℕ → Type 0
PeersActAll old actions new before after = (p : Pair) → Follows p [] [] old → HasTold p actions new before after

-- over each wire of this project the peers are begun as the program's options say, and stand for no action
abbrev pub AreBegun : Program → Peers → Type 0
AreBegun p peers = (wire : Wire) → IsHouseWire (limits_in p.settings).frame wire → Follows (pair_in wire p) [] [] peers
