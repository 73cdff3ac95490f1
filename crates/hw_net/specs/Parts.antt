-- The parts of a door and of a dialer.
use Rattle.std.specs.Prelude.{ℕ, List}
use Rattle.hw_door.specs.declared.heard.Address.{Address}
use Rattle.hw_net.specs.declared.numbers.LaneWire.{LaneWire}
use Rattle.hw_net.specs.Lanes.{LanesState}

-- the wires, the lanes that stand on them, the number from which on lanes come first in the next search that begins with no named one, how
-- many searches in a row began with a named one since one heard nothing, the moment of what was heard last, how often a call failed, and how many calls of `next` in a row
-- didn't flush before they heard
pub record ReactorParts (W : Type 0) : Type 0 where
  pub wires : W
  pub lanes : LanesState
  pub from : ℕ
  pub named : ℕ
  pub moment : ℕ
  pub faults : ℕ
  pub gathering : ℕ

-- what a dialer has of a door, the addresses that it dials, on which wire each of its lanes stands, in order, the lanes whose ask failed and whose loss
-- is still to be heard, in order, and the lane that was answered last, 0 before the first
pub record DialerParts (W : Type 0) : Type 0 where
  pub reactor : ReactorParts W
  pub addresses : List Address
  pub numbers : List LaneWire
  pub failed : List ℕ
  pub last : ℕ
