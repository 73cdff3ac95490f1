use Rattle.std.proofs.Common.{rules}
use Rattle.hw_net.specs.declared.protocol.Protocol.TheVariants.{Http, Response, Socket}
use Rattle.hw_net.proofs.Halting.{halts-in}
use Rattle.hw_net.proofs.lane.NetLane.hear.Goals.{in-Http, in-Response, in-Socket}
use Rattle.hw_net.proofs.lane.NetLane.hear.Goals as goal

pub returns-clause-halts : goal.returns-clause-halts
returns-clause-halts g c =
    rw (← c.self.view_is) (elim c.match-self.branch [
      | in-Http w ↦ rw (w.wires-is, w.result-is, w.self-inside-is) (halts-in w.hear.result _ _ c.self.inside.wire c.self.inside.protocol (Http w.in-Http.http_state) (Http w.hear.new.self) (search rules) w.hear.ensures.halts)
      | in-Response w ↦ rw (w.wires-is, w.result-is, w.self-inside-is) (halts-in w.hear-in-Response.result _ _ c.self.inside.wire c.self.inside.protocol (Response w.in-Response.response_state) (Response w.hear-in-Response.new.self) (search rules) w.hear-in-Response.ensures.halts)
      | in-Socket w ↦ rw (w.wires-is, w.result-is, w.self-inside-is) (halts-in w.hear-in-Socket.result _ _ c.self.inside.wire c.self.inside.protocol (Socket w.in-Socket.websocket_state) (Socket w.hear-in-Socket.new.self) (search rules) w.hear-in-Socket.ensures.halts)
    ])
