use Rattle.sr_script.proofs.Settled.{settled}
use Rattle.sr_script.proofs.laws.scripts_are_settled.Goals as goal

pub returns : goal.returns
returns c text p = settled text p
