use Rattle.std.proofs.Common.{rules}
use Rattle.hw_net.specs.Turn.{Replies}
use Rattle.hw_net.proofs.Places.{does-nothing, does-at}
use Rattle.hw_net.proofs.reactor.Reactor.reply.Goals as goal

pub returns-in_default-clause-replied : goal.returns-in_default-clause-replied
returns-in_default-clause-replied g c =
    does-nothing (g.W.Wires.trace c.args.self.now.wires) c.args.lane c.args.self.now.from _ c.args.self.now.named _ c.args.self.now.moment _ (Replies c.args.self.now.moment c.args.reply.now) c.args.self.now.lanes.items (search rules) (search rules) (search rules) (search rules)

pub returns-clause-replied : goal.returns-clause-replied
returns-clause-replied g c =
    let trace = g.W.Wires.trace in
    does-at (trace c.args.self.now.wires) (trace c.reply.new.wires) c.args.lane c.args.self.now.from _ c.args.self.now.named _ c.args.self.now.moment _ (Replies c.args.self.now.moment c.args.reply.now) c.args.self.now.lanes.items c.reply.new.self.items c.in-Some.index
    (search rules) (search rules) (search rules) (search rules) (search rules)
