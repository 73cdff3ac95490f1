use Rattle.std.proofs.Common.{◌∙◌, ◌≡◌, Some, inr, refl, sym, subst, false, true, Bool}
use Rattle.hj_jobs.proofs.Halves.{finish_ends, finish_goes_on}
use Rattle.hj_jobs.proofs.jobs.Jobs.commit.Goals as goal

pub returns-then-finishes-clause-turned : goal.returns-then-finishes-clause-turned
returns-then-finishes-clause-turned g c = λ who h now a.
    finish_ends {H = g.row.H.Denot} _ who c.args.self.now h now c.args.stepped.now a c.drop_job.new.self (sym c.finishes.ensures ∙ c.if-finishes.true) c.drop_job.ensures

pub returns-clause-turned : goal.returns-clause-turned
returns-clause-turned g c = λ who h now a.
    finish_goes_on {H = g.row.H.Denot} _ who c.args.self.now h now c.args.stepped.now a c.agree.new.self (sym c.finishes.ensures ∙ c.if-finishes.false) c.turned.new.self c.turned.ensures c.agree.ensures
