use Rattle.std.proofs.Common.{◌≡◌, ◌++◌, map, All}
use Rattle.std.specs.Vec.Iter.{into_iter_items}
use Rattle.hw_door.specs.Lines.{HasRoom, wire_in}
use Rattle.hw_door.specs.Wires.{wire_of}
use Rattle.hw_door.proofs.lines.lines_of.Given as goal

abbrev pub invariant-loop-wire : goal.invariant-loop-wire
invariant-loop-wire l = record {
  wires : map wire_in l.lines.items ++ map wire_of (into_iter_items l.wire-iterator) ≡ map wire_of l.fn.wires.items;
  room : All (HasRoom l.room) l.lines.items;
}
