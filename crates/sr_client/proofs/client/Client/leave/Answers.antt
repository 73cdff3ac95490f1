use Rattle.std.proofs.Common.{sym, ◌∙◌}
use Rattle.sr_client.proofs.Dropped.{leaves_lane, leaves_none, none_by}
use Rattle.sr_client.proofs.Parts.{parts_of}
use Rattle.sr_client.proofs.client.Client.leave.Goals as goal

pub returns-in-Some-clause-left : goal.returns-in-Some-clause-left
returns-in-Some-clause-left c = λ s b h x closed.
    leaves_lane s b c.args.self.now c.leave_lane.new.self c.args.words.now h (parts_of s b c.args.self.now c.args.words.now h x) x.dropped
    (sym (c.is_over.ensures.stands s.dialing _ x.standing.kept.dialed) ∙ c.if-is_over.false) c.leave_lane.result (c.leave_lane.ensures.left, c.leave_lane.ensures.lane)
    c.in-Some.lane c.in-Some.is

pub returns-in_default-clause-left : goal.returns-in_default-clause-left
returns-in_default-clause-left c = λ s b h x closed.
    leaves_none s b c.args.self.now c.leave_lane.new.self c.args.words.now h (parts_of s b c.args.self.now c.args.words.now h x) x.dropped
    (sym (c.is_over.ensures.stands s.dialing _ x.standing.kept.dialed) ∙ c.if-is_over.false) c.leave_lane.result (c.leave_lane.ensures.left, c.leave_lane.ensures.lane)
    (none_by c.leave_lane.result c.in_default.not-Some)
