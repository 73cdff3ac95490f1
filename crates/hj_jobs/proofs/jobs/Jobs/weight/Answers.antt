use Rattle.std.proofs.Common.{subst, sym}
use Rattle.hd_calls.specs.Tables.{kept_weight_in}
use Rattle.hj_jobs.specs.Calls.{Measures}
use Rattle.hj_jobs.proofs.Told.{kept_measured}
use Rattle.hj_jobs.proofs.jobs.Jobs.weight.Goals as goal

pub returns : goal.returns
returns g c = λ who h s. subst (λ n. Measures n (kept_weight_in h)) (sym c.weight.ensures) (kept_measured {H = g.row.H.Denot} _ who c.args.self.now h s)
