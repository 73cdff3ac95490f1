use Rattle.hh_http.proofs.LaneFacts.{series-next}
use Rattle.hh_http.proofs.message_lane.MessageLane.next.Goals as goal

pub returns-clause-series : goal.returns-clause-series
returns-clause-series g c =
    series-next g.M.Message.grammar c.args.self.now c.answer.new.self c.answer.result c.answer.ensures.answers c.answer.ensures.repeats c.answer.ensures.rests
