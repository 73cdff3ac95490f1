use Rattle.std.proofs.Common.{rules, ◌≤◌, ◌+◌, arith}
use Rattle.hw_net.specs.Lane.{wires_of}
use Rattle.hw_net.proofs.Numbering.{higher}
use Rattle.hw_net.proofs.reactor.Reactor.accept.Goals as goal

pub invariant_of-self : goal.invariant_of-self
invariant_of-self g c =
    let bound = g.W.Wires.wires in
    let first : bound c.self.inside.wires ≤ c.in-Ok-Some.wire = search rules in
    let next : c.in-Ok-Some.wire + 1 ≤ bound c.accept.new.self = search rules in
    (higher 0 (bound c.self.inside.wires) (bound c.accept.new.self) (wires_of c.self.inside.lanes.items) (omega (arith, first, next)) c.self.invariant.0, c.self.invariant.1)

pub add_accepted-requires-clause-later : goal.add_accepted-requires-clause-later
add_accepted-requires-clause-later g c =
    let bound = g.W.Wires.wires in
    let first : bound c.self.inside.wires ≤ c.in-Ok-Some.wire = search rules in
    higher 0 (bound c.self.inside.wires) c.in-Ok-Some.wire (wires_of c.self.inside.lanes.items) first c.self.invariant.0
