use Rattle.std.proofs.Common.{◌≡◌, ◌≤◌, List, length}
use Rattle.hw_door.specs.Traffic.{Answer}
use Rattle.hw_net.specs.Trace.{Tells}
use Rattle.hw_net.proofs.Writings.{Continues}
use Rattle.hw_net.proofs.writing.write_frames.Given as goal

abbrev pub invariant-loop-wires : goal.invariant-loop-wires
invariant-loop-wires g l =
    ((answers : List Answer) × Tells (g.W.Wires.trace l.initial.wires) (g.W.Wires.trace l.wires) answers
    × Continues l.wire l.initial.lane.out.bytes answers l.lane.out.bytes)
    × (g.W.Wires.wires l.wires ≡ g.W.Wires.wires l.initial.wires)
    × (g.W.Wires.faults l.initial.wires ≤ g.W.Wires.faults l.wires)
    × (l.lane ≡ record l.initial.lane { out = record l.initial.lane.out { bytes = l.lane.out.bytes } })

abbrev pub decreases-loop-wires : goal.decreases-loop-wires
decreases-loop-wires g l = length l.lane.out.bytes
