use Rattle.std.proofs.Common.{refl}
use Rattle.hj_jobs.proofs.Table.{stands_start}
use Rattle.hj_jobs.proofs.jobs.Jobs.start.Goals as goal

pub returns-clause-stands : goal.returns-clause-stands
returns-clause-stands g c = λ who. stands_start {H = g.row.H.Denot} _ who _ c.start.ensures.entries c.start.ensures.count c.start.ensures.weight c.start-2.ensures.ids c.start-2.ensures.streams c.start-3.ensures refl refl
