use Rattle.std.proofs.Common.{◌≡◌, ◌≤◌, List, length}
use Rattle.hw_door.specs.Traffic.{Answer}
use Rattle.hw_net.specs.Trace.{Tells}
use Rattle.hw_net.proofs.Writings.{Continues}
use Rattle.hw_net.proofs.writing.write_bytes.Given as goal

abbrev pub invariant-loop-wires : goal.invariant-loop-wires
invariant-loop-wires g l =
    ((answers : List Answer) × Tells (g.W.Wires.trace l.initial.wires) (g.W.Wires.trace l.wires) answers
    × Continues l.wire l.initial.bytes.items answers l.bytes.items)
    × (g.W.Wires.wires l.wires ≡ g.W.Wires.wires l.initial.wires)
    × (g.W.Wires.faults l.initial.wires ≤ g.W.Wires.faults l.wires)

abbrev pub decreases-loop-wires : goal.decreases-loop-wires
decreases-loop-wires g l = length l.bytes.items
