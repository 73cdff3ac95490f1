use Rattle.hd_carried.proofs.Coming.{requests_come_free}
use Rattle.hd_carried.proofs.laws.requests_come_free.Goals as goal

pub returns : goal.returns
returns g c =
    requests_come_free _ g.W.Wires.trace g.W.Wires.wires c.calls_are_a_session.ensures.session c.calls_are_a_session.ensures.split c.requests_are_free.ensures c.parts_of_turns.ensures
    c.each_request_is_answered.ensures
