use Rattle.std.proofs.Common.{rules}
use Rattle.hw_net.proofs.Gathering.{written-here, written-nowhere}
use Rattle.hw_net.proofs.lanes.Lanes.write_at.Goals as goal

pub returns-in-Some-clause-written : goal.returns-in-Some-clause-written
returns-in-Some-clause-written g c =
    let trace = g.W.Wires.trace in
    written-here (trace c.args.wires.now) (trace c.write_if_live.new.wires) c.args.wire c.in-Some.index c.args.self.now.items c.write_if_live.new.self.items (search rules) c.write_if_live.ensures.written

pub returns-in_default-clause-written : goal.returns-in_default-clause-written
returns-in_default-clause-written g c = written-nowhere (g.W.Wires.trace c.args.wires.now) c.args.wire c.args.self.now.items (search rules)
