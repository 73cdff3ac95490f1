use Rattle.std.proofs.Common.{refl}
use Rattle.hj_jobs.specs.Meaning.{meaning}
use Rattle.hub_server.proofs.FlushOne.{ends_now, ends_open, ends_still}
use Rattle.hub_server.proofs.server.Server.end_poller.Goals as goal

pub returns-then-not-is_closed-clause-ends : goal.returns-then-not-is_closed-clause-ends
returns-then-not-is_closed-clause-ends g c s u before h x there polls =
    ends_open {H = g.row.H.Denot} {Job = g.row.H-Job.Denot}
    (meaning g.H.Hub.begin_of g.H.Hub.step_of) s u before c.args.self.now c.args.conn h x there c.is_closed.result
    c.is_closed.ensures.there c.if-not-is_closed.true

pub returns-then-is_ending-clause-ends : goal.returns-then-is_ending-clause-ends
returns-then-is_ending-clause-ends g c s u before h x there polls =
    ends_still {H = g.row.H.Denot} {Job = g.row.H-Job.Denot}
    (meaning g.H.Hub.begin_of g.H.Hub.step_of) s u before c.args.self.now c.args.conn h x there c.is_closed.result
    c.is_closed.ensures.there c.is_ending.result c.if-not-is_closed.false c.is_ending.ensures c.if-is_ending.true

pub returns-clause-ends : goal.returns-clause-ends
returns-clause-ends g c s u before h x there polls =
    ends_now {H = g.row.H.Denot} {Job = g.row.H-Job.Denot}
    (meaning g.H.Hub.begin_of g.H.Hub.step_of) s u before c.args.self.now c.args.conn h x there c.is_closed.result
    c.is_closed.ensures.there c.is_ending.result c.ending.new.self c.args.self.now.moment c.if-not-is_closed.false c.is_ending.ensures
    c.if-is_ending.false polls refl
    c.ending.ensures
