use Rattle.hd_delivery.proofs.LinkSteps.{counts}
use Rattle.hd_delivery.proofs.laws.frames_count.Goals as goal

pub returns : goal.returns
returns c = counts
