use Rattle.sr_script.proofs.Settled.{suited}
use Rattle.sr_script.proofs.laws.scripts_suit.Goals as goal

pub returns : goal.returns
returns c text p = suited text p
