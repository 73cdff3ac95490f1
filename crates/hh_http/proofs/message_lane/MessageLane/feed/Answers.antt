use Rattle.std.proofs.Common.{take}
use Rattle.hh_http.proofs.LaneFacts.{series-fed}
use Rattle.hh_http.proofs.message_lane.MessageLane.feed.Goals as goal

pub returns-clause-series : goal.returns-clause-series
returns-clause-series g c =
    series-fed g.M.Message.grammar g.met.M.Message.lawful c.args.self.now c.hold.new.self (take c.hold.result c.args.piece.now) c.hold.ensures.held
