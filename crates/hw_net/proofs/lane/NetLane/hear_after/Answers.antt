use Rattle.std.proofs.Common.{rules}
use Rattle.hw_net.proofs.Halting.{calm-halts, calm-http-halts}
use Rattle.hw_net.proofs.lane.NetLane.hear_after.Goals.{in-Http, in-Response, in-Socket}
use Rattle.hw_net.proofs.lane.NetLane.hear_after.Goals as goal

pub returns-clause-halts : goal.returns-clause-halts
returns-clause-halts c = elim c.match-self.branch [
  | in-Http w ↦ rw (w.result-is, w.self-inside-is) (calm-http-halts w.hear_after.result c.args.self.now w.in-Http.http_state w.hear_after.new.self c.args.buf.now c.args.read (search rules) w.hear_after.ensures.halts)
  | in-Response w ↦ rw w.result-is tt
  | in-Socket w ↦ rw (w.result-is, w.self-inside-is) (calm-halts w.hear_after-in-Socket.result c.args.self.now w.in-Socket.websocket_state w.hear_after-in-Socket.new.self c.args.buf.now c.args.read (search rules) w.hear_after-in-Socket.ensures.halts)
]
