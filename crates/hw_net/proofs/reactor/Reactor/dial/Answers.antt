use Rattle.std.proofs.Common.{rules, ◌≡◌, ◌≤◌, ◌+◌, arith, refl}
use Rattle.hw_net.specs.Door.{DoorState}
use Rattle.hw_net.specs.Lane.{wires_of}
use Rattle.hw_net.proofs.Dialing.{cut-on, dials-nowhere, dials-on}
use Rattle.hw_net.proofs.Numbering.{higher}
use Rattle.hw_net.proofs.reactor.Reactor.dial.Goals as goal

pub invariant_of-self : goal.invariant_of-self
invariant_of-self g c =
    let bound = g.W.Wires.wires in
    let first : bound c.self.inside.wires ≤ c.in-Ok.wire = search rules in
    let next : c.in-Ok.wire + 1 ≤ bound c.connect.new.self = search rules in
    (higher 0 (bound c.self.inside.wires) (bound c.connect.new.self) (wires_of c.self.inside.lanes.items) (omega (arith, first, next)) c.self.invariant.0, c.self.invariant.1)

pub ask_on-requires-clause-later : goal.ask_on-requires-clause-later
ask_on-requires-clause-later g c =
    let bound = g.W.Wires.wires in
    let first : bound c.self.inside.wires ≤ c.in-Ok.wire = search rules in
    higher 0 (bound c.self.inside.wires) c.in-Ok.wire (wires_of c.self.inside.lanes.items) first c.self.invariant.0

pub returns-in-Ok-clause-dialed : goal.returns-in-Ok-clause-dialed
returns-in-Ok-clause-dialed g c =
    let trace = g.W.Wires.trace in
    let d = c.self.inside in
    let e = c.ask_on.new.self in
    let before : DoorState = record { lanes = d.lanes.items; from = d.from; named = d.named; moment = d.moment } in
    let after : DoorState = record { lanes = e.lanes.items; from = e.from; named = e.named; moment = e.moment } in
    rw (← c.self.view_is) (dials-on c.ask_on.result (trace d.wires) (trace c.connect.new.self) (trace e.wires) c.args.ask.items c.args.upgrade c.in-Ok.wire before after (search rules) c.ask_on.ensures.answer
    c.ask_on.ensures.asked (search rules))

pub returns-in-Ok-clause-halts : goal.returns-in-Ok-clause-halts
returns-in-Ok-clause-halts g c =
    let trace = g.W.Wires.trace in
    let bound = g.W.Wires.wires in
    let first : bound c.self.inside.wires ≤ c.in-Ok.wire = search rules in
    let next : c.in-Ok.wire + 1 ≤ bound c.connect.new.self = search rules in
    let same : bound c.ask_on.new.self.wires ≡ bound c.connect.new.self = search rules in
    rw (← c.self.view_is) (cut-on c.ask_on.result (trace c.self.inside.wires) (trace c.connect.new.self) (trace c.ask_on.new.self.wires) c.in-Ok.wire (bound c.self.inside.wires) (bound c.ask_on.new.self.wires) first
    (omega (arith, next, same)) (search rules) c.ask_on.ensures.told)

pub returns-in-Err-clause-dialed : goal.returns-in-Err-clause-dialed
returns-in-Err-clause-dialed g c =
    let trace = g.W.Wires.trace in
    let d = c.self.inside in
    let state : DoorState = record { lanes = d.lanes.items; from = d.from; named = d.named; moment = d.moment } in
    rw (← c.self.view_is) (dials-nowhere (trace d.wires) (trace c.connect.new.self) c.args.ask.items c.args.upgrade state state (search rules) refl)
