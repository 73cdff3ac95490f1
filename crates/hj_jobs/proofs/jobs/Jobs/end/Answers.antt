use Rattle.hj_jobs.proofs.Told.{end_dead, end_live}
use Rattle.hj_jobs.proofs.jobs.Jobs.end.Goals as goal

pub returns-clause-ended : goal.returns-clause-ended
returns-clause-ended g c = λ who h s j is. end_live {H = g.row.H.Denot} _ who c.args.self.now h s c.drop_job.new.self j (rw (← is) c.drop_job.ensures)

pub returns-clause-otherwise : goal.returns-clause-otherwise
returns-clause-otherwise g c = λ who h s dead. end_dead {H = g.row.H.Denot} _ who c.args.self.now h s c.drop_job.new.self c.args.job c.drop_job.ensures dead
