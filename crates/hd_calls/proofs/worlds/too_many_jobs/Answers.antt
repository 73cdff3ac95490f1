use Rattle.hd_calls.proofs.Bounds.{fills_jobs}
use Rattle.hd_calls.proofs.worlds.too_many_jobs.Goals as goal

pub returns-clause-fills : goal.returns-clause-fills
returns-clause-fills c t k = fills_jobs t k
