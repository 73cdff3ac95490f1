use Rattle.hj_jobs.specs.Meaning.{meaning}
use Rattle.hub_server.proofs.FlushSocket.{shuts_none, shuts_one}
use Rattle.hub_server.proofs.server.Server.shut.Goals as goal

pub returns-then-not-may_shut-clause-shuts : goal.returns-then-not-may_shut-clause-shuts
returns-then-not-may_shut-clause-shuts g c s u before h x k at =
    shuts_none {H = g.row.H.Denot} {Job = g.row.H-Job.Denot}
    (meaning g.H.Hub.begin_of g.H.Hub.step_of) s u before c.args.self.now c.args.lane h c.may_shut.result
    c.if-not-may_shut.true (c.may_shut.ensures s u before h x k at) x

pub returns-clause-shuts : goal.returns-clause-shuts
returns-clause-shuts g c s u before h x k at =
    shuts_one {H = g.row.H.Denot} {Job = g.row.H-Job.Denot}
    (meaning g.H.Hub.begin_of g.H.Hub.step_of) s u before c.args.self.now c.shut.new.self c.args.lane h c.may_shut.result
    c.if-not-may_shut.false (c.may_shut.ensures s u before h x k at) c.in_ok-shut.ensures x
