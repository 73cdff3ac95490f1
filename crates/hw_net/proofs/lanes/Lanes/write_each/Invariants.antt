use Rattle.std.proofs.Common.{◌≡◌, ◌≤◌, List, take}
use Rattle.hw_door.specs.Traffic.{Answer}
use Rattle.hw_net.specs.Flushing.{WriteEach}
use Rattle.hw_net.specs.Lane.{wires_of}
use Rattle.hw_net.specs.Trace.{Tells}
use Rattle.hw_net.proofs.lanes.Lanes.write_each.Given as goal

abbrev pub invariant-loop-wire : goal.invariant-loop-wire
invariant-loop-wire g l =
    ((answers : List Answer) × Tells (g.W.Wires.trace l.initial.wires) (g.W.Wires.trace l.wires) answers
    × WriteEach (take l.wire-index l.listed) l.initial.self.items l.self.items answers)
    × (g.W.Wires.wires l.wires ≡ g.W.Wires.wires l.initial.wires)
    × (wires_of l.self.items ≡ wires_of l.initial.self.items)
    × (g.W.Wires.faults l.initial.wires ≤ g.W.Wires.faults l.wires)
