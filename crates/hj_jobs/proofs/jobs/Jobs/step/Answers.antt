use Rattle.hj_jobs.proofs.Halves.{both_halves}
use Rattle.hj_jobs.proofs.jobs.Jobs.step.Goals as goal

pub returns-in_default-clause-ok : goal.returns-in_default-clause-ok
returns-in_default-clause-ok g c = λ who h s. (rw c.in_default.is at (c.in_ok-stepped.ensures.ok who h s))

pub returns-clause-ok : goal.returns-clause-ok
returns-clause-ok g c = λ who h s.
    both_halves {H = g.row.H.Denot} _ who c.prepare.new.self c.commit.new.self h c.args.now c.args.room c.in-Some.stepped
    (rw c.in-Some.is at (c.in_ok-stepped.ensures.ok who h s)) (λ a. c.commit.ensures.turned who h c.args.now a)
