use Rattle.std.proofs.Common.{rules, ◌≡◌, None, Some, refl}
use Rattle.hw_net.specs.LaneNumbers.{wire_of}
use Rattle.hw_net.proofs.Dialing.{send-off, send-on}
use Rattle.hw_net.proofs.LaneNumbering.{lanes-rise}
use Rattle.hw_net.proofs.dialer.NetDialerDialer.send.Goals as goal

pub returns-in_default-clause-given : goal.returns-in_default-clause-given
returns-in_default-clause-given g c =
    let d = c.self.inside in
    let none : wire_of c.args.lane d.numbers.items ≡ None = search rules in
    rw (← c.self.view_is) (send-off g.W.Wires.trace g.W.Wires.wires g.W.Wires.faults c.args.lane c.args.bytes.now c.args.text (record { reactor = d.reactor; addresses = d.addresses.items; numbers = d.numbers.items; failed = d.failed.items; last = d.last }) none)

pub returns-clause-given : goal.returns-clause-given
returns-clause-given g c =
    let d = c.self.inside in
    let some : wire_of c.args.lane d.numbers.items ≡ Some c.in-Some.wire = search rules in
    let s = c.send.ensures in
    rw (← c.self.view_is) (send-on g.W.Wires.trace g.W.Wires.wires g.W.Wires.faults c.args.lane c.in-Some.wire c.args.bytes.now c.args.text c.send.result (record { reactor = d.reactor; addresses = d.addresses.items; numbers = d.numbers.items; failed = d.failed.items; last = d.last })
    (record { reactor = c.send.new.self; addresses = d.addresses.items; numbers = d.numbers.items; failed = d.failed.items; last = d.last }) some s.sent s.answer s.memory s.unchanged s.bound s.gathering
    (refl, refl, refl, refl))

pub wire_of-requires : goal.wire_of-requires
wire_of-requires g c =
    let d = c.self.inside in
    rw c.deref.ensures.value (lanes-rise (g.W.Wires.wires d.reactor.wires) d.reactor.lanes.items d.numbers.items d.failed.items d.last c.self.invariant)
