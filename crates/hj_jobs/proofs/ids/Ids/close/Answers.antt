use Rattle.hj_jobs.proofs.Claiming.{changed}
use Rattle.std.proofs.Common.{None, refl}
use Rattle.hj_jobs.proofs.ids.Ids.close.Goals as goal

pub returns : goal.returns
returns c = record { ids = λ i. refl; streams = changed c.args.self.now.streams c.remove.new.self c.args.id.now None c.remove.ensures.updates }
