-- How the numbers of a dialer's lanes stand for them.
use Rattle.std.specs.Prelude.{◌≡◌, ◌+◌, ℕ, List}
use Rattle.hw_net.specs.declared.numbers.LaneWire.{LaneWire}
use Rattle.hw_net.specs.Lane.{Lane, wires_of}
use Rattle.hw_net.specs.LaneNumbers.{lanes_in, wires_in}
use Rattle.hw_net.specs.Rising.{IsRising}

-- The lanes on wires are numbered, and those whose ask failed, each kind in order, up to the last number that was given; and the numbers of the wires, which lie
-- below this bound, rise with them.
pub record AreNumbered (bound : ℕ) (lanes : List Lane) (numbers : List LaneWire) (failed : List ℕ) (last : ℕ) : Type 0 where
  pub wires : wires_in numbers ≡ wires_of lanes
  pub by_wire : IsRising 0 bound (wires_in numbers)
  pub by_lane : IsRising 1 (last + 1) (lanes_in numbers)
  pub unheard : IsRising 1 (last + 1) failed
