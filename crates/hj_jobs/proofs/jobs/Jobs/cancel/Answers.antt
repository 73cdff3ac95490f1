use Rattle.std.proofs.Common.{◌∙◌, sym}
use Rattle.hj_jobs.specs.Live.{IsMarked}
use Rattle.hj_jobs.proofs.Told.{agreed, cancel_again, cancel_known, cancel_nobody}
use Rattle.hj_jobs.proofs.jobs.Jobs.cancel.Goals as goal

pub returns-in_default-clause-unknown : goal.returns-in_default-clause-unknown
returns-in_default-clause-unknown g c = λ who h s. cancel_nobody {H = g.row.H.Denot} _ who c.args.self.now h s c.args.id.now (sym c.job.ensures ∙ c.in_default.is)

pub returns-then-not-is_unmarked-clause-unknown : goal.returns-then-not-is_unmarked-clause-unknown
returns-then-not-is_unmarked-clause-unknown g c = λ who h s.
    cancel_again {H = g.row.H.Denot} _ who c.args.self.now h s c.args.id.now c.in-Some.job
    (sym c.job.ensures ∙ c.in-Some.is) (sym c.is_unmarked.ensures ∙ c.if-not-is_unmarked.true)

pub returns-clause-ok : goal.returns-clause-ok
returns-clause-ok g c = λ who h s.
    cancel_known {H = g.row.H.Denot} _ who c.args.self.now h s c.agree.new.self c.args.id.now c.in-Some.job
    (sym c.job.ensures ∙ c.in-Some.is) (sym c.is_unmarked.ensures ∙ c.if-not-is_unmarked.false)
    (agreed {H = g.row.H.Denot} c.args.self.now c.agree.new.self c.mark.new.self c.in-Some.job IsMarked c.mark.ensures c.agree.ensures)
