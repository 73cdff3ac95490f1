use Rattle.std.proofs.Common.{◌≡◌, ◌≤◌, List, None, length}
use Rattle.hw_door.specs.Traffic.{Answer}
use Rattle.hw_net.specs.Lane.{wires_of}
use Rattle.hw_net.specs.Trace.{Tells}
use Rattle.hw_net.specs.Walks.{Walks}
use Rattle.hw_net.proofs.turns.turn_until.Given as goal

abbrev pub invariant-loop-index : goal.invariant-loop-index
invariant-loop-index g l =
    ((answers : List Answer) × Tells (g.W.Wires.trace l.initial.wires) (g.W.Wires.trace l.wires) answers
    × Walks l.now None l.begin l.index l.initial.lanes.items l.lanes.items answers None)
    × (l.begin ≤ l.index)
    × (length l.buf ≡ 4096)
    × (g.W.Wires.wires l.wires ≡ g.W.Wires.wires l.initial.wires)
    × (wires_of l.lanes.items ≡ wires_of l.initial.lanes.items)
