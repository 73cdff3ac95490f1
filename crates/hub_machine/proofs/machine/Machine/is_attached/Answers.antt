use Rattle.std.proofs.Common.{◌∙◌, ap, is_some, sym}
use Rattle.hj_jobs.specs.Meaning.{meaning}
use Rattle.hub_machine.proofs.Lags.{lags}
use Rattle.hub_machine.proofs.machine.Machine.is_attached.Goals as goal

pub returns-in-Some-clause-there : goal.returns-in-Some-clause-there
returns-in-Some-clause-there g c w t s there =
    let hub = meaning g.H.Hub.begin_of g.H.Hub.step_of in
    let l = lags {H = g.row.H.Denot} {Job = g.row.H-Job.Denot} hub c.args.self.now w c.args.conn t c.in-Some.peer.now s there c.in-Some.ensures.value in
    c.is_attached.ensures t l.before l.stands ∙ ap is_some (sym l.same.present)
