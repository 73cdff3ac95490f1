use Rattle.std.proofs.Common.{rules, Some}
use Rattle.hw_net.proofs.Calm.{drained-turns, stalled-turns, on-turns}
use Rattle.hw_net.proofs.lane.NetLane.turn_live.Goals as goal

pub returns-then-is_drained-clause-turned : goal.returns-then-is_drained-clause-turned
returns-then-is_drained-clause-turned g c =
    let trace = g.W.Wires.trace in
    drained-turns (trace c.args.wires.now) (trace c.drain.new.wires) c.args.now c.args.self.now c.drain.new.self c.args.buf.now c.args.first_look (Some c.drain.result) (search rules) c.drain.ensures.drained

pub returns-then-is_stalled-clause-turned : goal.returns-then-is_stalled-clause-turned
returns-then-is_stalled-clause-turned g c =
    let trace = g.W.Wires.trace in
    stalled-turns (trace c.args.wires.now) (trace c.fall.new.wires) c.args.now c.args.self.now c.fall.new.self c.args.buf.now c.args.first_look (Some c.fall.result) (search rules) (search rules) c.fall.ensures.fallen

pub returns-clause-turned : goal.returns-clause-turned
returns-clause-turned g c = λ first reads_first.
    let trace = g.W.Wires.trace in
    on-turns (trace c.args.wires.now) (trace c.turn_on.new.wires) c.args.now c.args.self.now c.turn_on.new.self c.note_turn.new.self first c.in_ok-heard.heard (search rules) (search rules)
    (c.in_ok-heard.ensures.turned first reads_first) c.note_turn.ensures
