use Rattle.hj_jobs.proofs.Legal.{acts_are_run, rounds_are_fair}
use Rattle.hj_jobs.proofs.laws.jobs_keep_their_runs.Goals as goal

pub returns : goal.returns
returns g c = λ hub who h p. (acts_are_run hub who h p, rounds_are_fair hub who h p)
