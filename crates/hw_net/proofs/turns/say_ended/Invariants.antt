use Rattle.std.proofs.Common.{◌≡◌, ◌≤◌, List}
use Rattle.hw_door.specs.Traffic.{Answer}
use Rattle.hw_net.specs.Lane.{wires_of}
use Rattle.hw_net.specs.Trace.{Tells}
use Rattle.hw_net.specs.Walks.{Speak}
use Rattle.hw_net.proofs.turns.say_ended.Given as goal

abbrev pub invariant-loop-index : goal.invariant-loop-index
invariant-loop-index g l =
    ((answers : List Answer) × Tells (g.W.Wires.trace l.initial.wires) (g.W.Wires.trace l.wires) answers
    × Speak l.now l.begin l.index l.initial.lanes.items l.lanes.items answers)
    × (l.begin ≤ l.index)
    × (g.W.Wires.wires l.wires ≡ g.W.Wires.wires l.initial.wires)
    × (wires_of l.lanes.items ≡ wires_of l.initial.lanes.items)
