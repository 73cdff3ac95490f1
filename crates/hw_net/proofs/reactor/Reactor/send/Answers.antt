use Rattle.std.proofs.Common.{rules, sym}
use Rattle.hw_net.specs.Turn.{Sends}
use Rattle.hw_net.proofs.Findings.{none-full, full-there}
use Rattle.hw_net.proofs.Places.{does-nothing, does-at}
use Rattle.hw_net.proofs.reactor.Reactor.send.Goals as goal

pub returns-in_default-clause-sent : goal.returns-in_default-clause-sent
returns-in_default-clause-sent g c =
    does-nothing (g.W.Wires.trace c.args.self.now.wires) c.args.lane c.args.self.now.from _ c.args.self.now.named _ c.args.self.now.moment _ (Sends c.args.self.now.moment c.args.bytes.now c.args.text) c.args.self.now.lanes.items (search rules) (search rules) (search rules) (search rules)

pub returns-in_default-clause-answer : goal.returns-in_default-clause-answer
returns-in_default-clause-answer g c = sym (none-full c.args.lane c.args.self.now.lanes.items (search rules))

pub returns-clause-sent : goal.returns-clause-sent
returns-clause-sent g c =
    let trace = g.W.Wires.trace in
    does-at (trace c.args.self.now.wires) (trace c.send.new.wires) c.args.lane c.args.self.now.from _ c.args.self.now.named _ c.args.self.now.moment _ (Sends c.args.self.now.moment c.args.bytes.now c.args.text) c.args.self.now.lanes.items c.send.new.self.items c.in-Some.index
    (search rules) (search rules) (search rules) (search rules) (search rules)

pub returns-clause-answer : goal.returns-clause-answer
returns-clause-answer g c =
    full-there c.args.lane (g.W.Wires.wires c.self.inside.wires) c.self.inside.lanes.items c.send.new.self.items c.in-Some.index c.in_ok-is_full.is_full c.self.invariant.0 c.send.ensures.lanes (search rules)
    c.in_ok-is_full.ensures.answer
