-- How two real peers go along a soak.
use Rattle.std.specs.Prelude.{◌≡◌, ◌*◌, ℕ, Bool, List, ◌++◌}
use Rattle.hd_delivery.specs.Bytes.{Wire}
use Rattle.he_wire.specs.Wires.{IsHouseWire}
use Rattle.hd_calls.specs.PeerWorlds.{Pair}
use Rattle.sr_script.specs.declared.action.Action.{Action}
use Rattle.sr_script.specs.Script.{AreInTurn}
use Rattle.sr_notation.specs.Terms.{limits_in}
use Rattle.sr_peers.specs.declared.peers.Peers.{Peers}
use Rattle.sr_peers.specs.Runs.{Run}
use Rattle.sr_peers.specs.Follows.{Follows}
use Rattle.sr_soak.specs.declared.draws.Draws.{Draws}
use Rattle.sr_soak.specs.Recipe.{closing_turn, drawn_script, soak_settings, state, with_turns}
use Rattle.sr_soak.specs.Soaks.{Goes, IsBusy, IsClosed, soak_pair}

-- of the two peers of a soak over each wire of this project
abbrev pub OverEachWire : (Pair → Type 0) → Type 0
OverEachWire Holds = (wire : Wire) → IsHouseWire (limits_in soak_settings).frame wire → Holds (soak_pair wire)

-- the peers stand for these actions
abbrev pub Reaches : List Action → Peers → Type 0
Reaches actions peers = OverEachWire (λ p. (r : Run) × Follows p actions r peers)

-- they stand for these actions too, whichever they stood for, if these may come next
abbrev pub Adds : List Action → Peers → Peers → Type 0
Adds actions old new = (before : List Action) → Reaches before old → AreInTurn (actions ++ before) → Reaches (actions ++ before) new

-- they stand for what so many steps made, and the next number is to be drawn
pub record HasDrawn (seed n : ℕ) (draws : Draws) (peers : Peers) : Type 0 where
  pub next : draws.x ≡ state seed (2 * n)
  pub reaches : Reaches (drawn_script seed n) peers

-- a turn was done, which worked or didn't
abbrev pub HasTurn : Peers → Peers → Bool → Type 0
HasTurn old new worked = (p : Pair) (before : List Action) (r : Run) → Follows p before r old
    → (made : Run) × (Goes p before r closing_turn made worked × Follows p (closing_turn ++ before) (made ++ r) new)

-- after these actions so many turns were done, each of which worked
abbrev pub HasTurned : List Action → ℕ → Peers → Type 0
HasTurned actions turns peers = OverEachWire (λ p. (r : Run) × (IsBusy p actions turns r × Follows p (with_turns turns actions) r peers))

-- after these actions as many turns were done as did anything
abbrev pub IsOver : List Action → ℕ → Peers → Type 0
IsOver actions most peers = OverEachWire (λ p. (turns : ℕ) × (r : Run) × (IsClosed p actions most turns r × Follows p (with_turns turns actions) r peers))
