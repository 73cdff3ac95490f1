use Rattle.std.proofs.Common.{subst}
use Rattle.hj_jobs.specs.Meaning.{meaning}
use Rattle.hub_server.specs.Servers.{Standing}
use Rattle.hub_server.proofs.GoneServer.{replied_held}
use Rattle.hub_server.proofs.server.Server.reply_held.Goals as goal

pub returns-clause-said : goal.returns-clause-said
returns-clause-said g c = λ s u before h stands is k at.
    let hub = meaning g.H.Hub.begin_of g.H.Hub.step_of in
    replied_held {H = g.row.H.Denot} {Job = g.row.H-Job.Denot} hub s before c.args.self.now c.args.lane c.args.reply h
    (subst (λ x. Standing {H = g.row.H.Denot} hub s x before c.args.self.now h) is stands) c.ends_held-ends.result
    (c.ends_held-ends.ensures s u before h stands k at) c.answer.new.self c.in_ok-answer.ensures
