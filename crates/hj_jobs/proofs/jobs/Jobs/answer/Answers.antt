use Rattle.std.proofs.Common.{◌∙◌, sym}
use Rattle.hj_jobs.specs.Live.{IsAnswered}
use Rattle.hj_jobs.proofs.Told.{agreed, answer_known}
use Rattle.hj_jobs.proofs.jobs.Jobs.answer.Goals as goal

pub returns-clause-ok : goal.returns-clause-ok
returns-clause-ok g c = λ who h s.
    answer_known {H = g.row.H.Denot} _ who c.args.self.now h s c.agree.new.self c.args.job c.args.input (sym c.awaits.ensures ∙ c.if-not-awaits.false)
    (agreed {H = g.row.H.Denot} c.args.self.now c.agree.new.self c.answer.new.self c.args.job (IsAnswered c.args.input) c.answer.ensures c.agree.ensures)
