use Rattle.std.proofs.Common.{rules}
use Rattle.hw_net.specs.Turn.{Shuts}
use Rattle.hw_net.proofs.Places.{does-nothing, does-at}
use Rattle.hw_net.proofs.reactor.Reactor.shut.Goals as goal

pub returns-in_default-clause-shut : goal.returns-in_default-clause-shut
returns-in_default-clause-shut g c =
    does-nothing (g.W.Wires.trace c.args.self.now.wires) c.args.lane c.args.self.now.from _ c.args.self.now.named _ c.args.self.now.moment _ (Shuts c.args.self.now.moment) c.args.self.now.lanes.items (search rules) (search rules) (search rules) (search rules)

pub returns-clause-shut : goal.returns-clause-shut
returns-clause-shut g c =
    let trace = g.W.Wires.trace in
    does-at (trace c.args.self.now.wires) (trace c.shut.new.wires) c.args.lane c.args.self.now.from _ c.args.self.now.named _ c.args.self.now.moment _ (Shuts c.args.self.now.moment) c.args.self.now.lanes.items c.shut.new.self.items c.in-Some.index
    (search rules) (search rules) (search rules) (search rules) (search rules)
