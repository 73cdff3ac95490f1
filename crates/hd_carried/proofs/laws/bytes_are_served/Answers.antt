use Rattle.hd_carried.proofs.Wired.{bytes_are_served}
use Rattle.hd_carried.proofs.laws.bytes_are_served.Goals as goal

pub returns : goal.returns
returns g c =
    bytes_are_served c.lanes_write_frames.ensures c.requests_are_asked.ensures.asked c.replies_are_written.ensures c.sockets_are_carried.ensures c.replies_are_said.ensures _ g.W.Wires.trace
    g.W.Wires.wires c.calls_are_a_session.ensures.session c.calls_are_a_session.ensures.split c.requests_are_free.ensures c.parts_of_turns.ensures c.each_request_is_answered.ensures
