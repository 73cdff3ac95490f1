use Rattle.std.proofs.Common.{arith}
use Rattle.hj_jobs.specs.Meaning.{meaning}
use Rattle.hub_server.proofs.FlushOne.{on_ok, on_ok_both}
use Rattle.hub_server.proofs.FlushPoll.{polls_closed, polls_late, polls_on, polls_some}
use Rattle.hub_server.proofs.Resting.{keeps_same, keeps_then}
use Rattle.hub_server.proofs.server.Server.flush_poll.Goals as goal

pub returns-then-branch-clause-flushed : goal.returns-then-branch-clause-flushed
returns-then-branch-clause-flushed g c = on_ok c.answer_poll.result _ _ (λ answers s u before h x calm there held.
    polls_some {H = g.row.H.Denot} {Job = g.row.H-Job.Denot}
    (meaning g.H.Hub.begin_of g.H.Hub.step_of) s u before c.args.self.now c.say_some.new.self c.args.conn c.args.held.lane c.args.held.since
    c.in_ok-say_some.field-0 c.new-body.result.items c.say_some.new.body.items h c.new-body.ensures.items x calm there held c.in_ok-say_some.ensures.lent
    c.answer_poll.new.self c.frames.result c.if-branch.true c.frames.ensures answers) c.answer_poll.ensures.answered

pub returns-then-is_closed-clause-flushed : goal.returns-then-is_closed-clause-flushed
returns-then-is_closed-clause-flushed g c s u before h x calm there held =
    polls_closed {H = g.row.H.Denot} {Job = g.row.H-Job.Denot}
    (meaning g.H.Hub.begin_of g.H.Hub.step_of) s u before c.args.self.now c.say_some.new.self c.args.conn c.args.held.lane c.args.held.since
    c.in_ok-say_some.field-0 c.new-body.result.items c.say_some.new.body.items h c.new-body.ensures.items x calm there held c.in_ok-say_some.ensures.lent
    c.is_closed.result c.reply_held.new.self c.remove_conn.new.self c.bare.result c.if-branch.false c.if-is_closed.true c.is_closed.ensures.there
    c.bare.ensures
    c.in_ok-reply_held.ensures.said c.remove_conn.ensures.gone c.remove_conn.ensures.absent

pub returns-then-saturating_sub-ge-HELD_FOR-clause-flushed : goal.returns-then-saturating_sub-ge-HELD_FOR-clause-flushed
returns-then-saturating_sub-ge-HELD_FOR-clause-flushed g c = on_ok c.answer_poll-then-saturating_sub-ge-HELD_FOR.result _ _
    (λ answers s u before h x calm there held.
    polls_late {H = g.row.H.Denot} {Job = g.row.H-Job.Denot}
    (meaning g.H.Hub.begin_of g.H.Hub.step_of) s u before c.args.self.now c.say_some.new.self c.args.conn c.args.held.lane c.args.held.since
    c.in_ok-say_some.field-0 c.new-body.result.items c.say_some.new.body.items h c.new-body.ensures.items x calm there held c.in_ok-say_some.ensures.lent
    c.is_closed.result c.answer_poll-then-saturating_sub-ge-HELD_FOR.new.self c.bare-then-saturating_sub-ge-HELD_FOR.result c.saturating_sub.result
    c.if-branch.false c.if-is_closed.false c.is_closed.ensures.there c.bare-then-saturating_sub-ge-HELD_FOR.ensures c.saturating_sub.ensures
    c.if-saturating_sub-ge-HELD_FOR.true (omega arith) answers) c.answer_poll-then-saturating_sub-ge-HELD_FOR.ensures.answered

pub returns-clause-flushed : goal.returns-clause-flushed
returns-clause-flushed g c = on_ok_both c.park.result _ _ _ (λ rests up s u before h x calm there held.
    polls_on {H = g.row.H.Denot} {Job = g.row.H-Job.Denot}
    (meaning g.H.Hub.begin_of g.H.Hub.step_of) s u before c.args.self.now c.say_some.new.self c.args.conn c.args.held.lane c.args.held.since
    c.in_ok-say_some.field-0 c.new-body.result.items c.say_some.new.body.items h c.new-body.ensures.items x calm there held c.in_ok-say_some.ensures.lent
    c.is_closed.result c.saturating_sub.result c.park.new.self c.if-branch.false c.if-is_closed.false c.is_closed.ensures.there
    c.saturating_sub.ensures c.if-saturating_sub-ge-HELD_FOR.false rests up) c.park.ensures.stands c.park.ensures.cause

pub returns-then-branch-clause-keeps : goal.returns-then-branch-clause-keeps
returns-then-branch-clause-keeps g c = on_ok c.answer_poll.result _ _ (λ answers.
    keeps_then {H = g.row.H.Denot} {Job = g.row.H-Job.Denot} c.args.self.now.machine c.say_some.new.self c.answer_poll.new.self.machine c.args.conn
    c.say_some.ensures.keeps (keeps_same {H = g.row.H.Denot} {Job = g.row.H-Job.Denot} c.say_some.new.self c.answer_poll.new.self.machine c.args.conn
    c.answer_poll.ensures.machine)) c.answer_poll.ensures.answered

pub returns-then-is_closed-clause-keeps : goal.returns-then-is_closed-clause-keeps
returns-then-is_closed-clause-keeps g c =
    keeps_then {H = g.row.H.Denot} {Job = g.row.H-Job.Denot} c.args.self.now.machine c.say_some.new.self c.remove_conn.new.self.machine c.args.conn
    c.say_some.ensures.keeps
    (keeps_then {H = g.row.H.Denot} {Job = g.row.H-Job.Denot} c.say_some.new.self c.reply_held.new.self.machine c.remove_conn.new.self.machine c.args.conn
    (keeps_same {H = g.row.H.Denot} {Job = g.row.H-Job.Denot} c.say_some.new.self c.reply_held.new.self.machine c.args.conn c.reply_held.ensures.machine)
    c.remove_conn.ensures.keeps)

pub returns-then-saturating_sub-ge-HELD_FOR-clause-keeps : goal.returns-then-saturating_sub-ge-HELD_FOR-clause-keeps
returns-then-saturating_sub-ge-HELD_FOR-clause-keeps g c = on_ok c.answer_poll-then-saturating_sub-ge-HELD_FOR.result _ _ (λ answers.
    keeps_then {H = g.row.H.Denot} {Job = g.row.H-Job.Denot} c.args.self.now.machine c.say_some.new.self
    c.answer_poll-then-saturating_sub-ge-HELD_FOR.new.self.machine c.args.conn c.say_some.ensures.keeps
    (keeps_same {H = g.row.H.Denot} {Job = g.row.H-Job.Denot} c.say_some.new.self c.answer_poll-then-saturating_sub-ge-HELD_FOR.new.self.machine c.args.conn
    c.answer_poll-then-saturating_sub-ge-HELD_FOR.ensures.machine)) c.answer_poll-then-saturating_sub-ge-HELD_FOR.ensures.answered

pub returns-clause-keeps : goal.returns-clause-keeps
returns-clause-keeps g c = on_ok c.park.result _ _ (λ keeps.
    keeps_then {H = g.row.H.Denot} {Job = g.row.H-Job.Denot} c.args.self.now.machine c.say_some.new.self c.park.new.self c.args.conn
    c.say_some.ensures.keeps keeps) c.park.ensures.keeps
