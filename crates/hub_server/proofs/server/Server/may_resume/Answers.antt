use Rattle.hj_jobs.specs.Meaning.{meaning}
use Rattle.hub_server.proofs.BeginLink.{granted_is}
use Rattle.hub_server.proofs.server.Server.may_resume.Goals as goal

pub returns : goal.returns
returns g c = λ s u before h st. granted_is {H = g.row.H.Denot} {Job = g.row.H-Job.Denot}
    (meaning g.H.Hub.begin_of g.H.Hub.step_of) c.args.self.now.machine
    c.args.conn h c.may_resume.result c.may_resume.ensures.there c.may_resume.ensures.absent st.machine
