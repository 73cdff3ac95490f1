use Rattle.std.proofs.Common.{rules}
use Rattle.hw_net.proofs.Calm.{live-turns}
use Rattle.hw_net.proofs.lane.NetLane.turn.Goals as goal

pub returns-in-Live-clause-turned : goal.returns-in-Live-clause-turned
returns-in-Live-clause-turned g c =
    let trace = g.W.Wires.trace in
    live-turns c.turn_live.result (trace c.args.wires.now) (trace c.turn_live.new.wires) c.args.now c.args.self.now c.turn_live.new.self c.args.buf.now c.args.first_look (search rules) c.turn_live.ensures.turned
