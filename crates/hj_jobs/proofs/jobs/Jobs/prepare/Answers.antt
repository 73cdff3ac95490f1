use Rattle.std.proofs.Common.{◌∙◌, ◌≡◌, Some, inr, refl, sym, subst, false, true, Bool}
use Rattle.hj_jobs.proofs.Rounds.{next_found, next_none}
use Rattle.hj_jobs.proofs.Told.{next_turns}
use Rattle.hj_jobs.proofs.Halves.{attempted_at}
use Rattle.hj_jobs.proofs.jobs.Jobs.prepare.Goals as goal

pub returns-in_default-clause-ok : goal.returns-in_default-clause-ok
returns-in_default-clause-ok g c = λ who h s. (inr (next_none c.args.self.now.due h s.due c.args.self.now.passed s.passed (c.in_default.ensures s.due.rising)), s)

pub returns-in_default-2-clause-ok : goal.returns-in_default-2-clause-ok
returns-in_default-2-clause-ok g c = λ who h s.
    absurd (next_turns {H = g.row.H.Denot} _ who c.args.self.now h s c.in-Some.job
    (next_found c.args.self.now.due h s.due c.args.self.now.passed c.in-Some.job s.passed (c.in-Some.ensures s.due.rising))
    (let turns = rw c.in_default-2.is at c.in_ok-stepped.ensures.ok in turns.0))

pub returns-clause-ok : goal.returns-clause-ok
returns-clause-ok g c = λ who h s. (
  c.if-not-room.false,
  attempted_at {H = g.row.H.Denot} _ who c.args.self.now h s c.prepare.new.self c.args.now c.in-Some.job c.in-Some-2.stepped
      (next_found c.args.self.now.due h s.due c.args.self.now.passed c.in-Some.job s.passed (c.in-Some.ensures s.due.rising))
      c.if-self.false (rw c.in-Some-2.is at c.in_ok-stepped.ensures.ok),
)
