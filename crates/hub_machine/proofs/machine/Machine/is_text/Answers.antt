use Rattle.std.proofs.Common.{◌∙◌, sym}
use Rattle.hj_jobs.specs.Meaning.{meaning}
use Rattle.hub_machine.proofs.Lags.{lags}
use Rattle.hub_machine.proofs.machine.Machine.is_text.Goals as goal

pub returns-in-Some : goal.returns-in-Some
returns-in-Some g c w t s there is =
    let hub = meaning g.H.Hub.begin_of g.H.Hub.step_of in
    let l = lags {H = g.row.H.Denot} {Job = g.row.H-Job.Denot} hub c.args.self.now w c.args.conn t c.in-Some.peer.now s there c.in-Some.ensures.value in
    c.says_texts.ensures t l.before l.stands (record { side = is.side; codec = is.codec }) ∙ sym l.same.text
