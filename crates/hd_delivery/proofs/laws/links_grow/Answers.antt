use Rattle.hd_delivery.proofs.LinkSteps.{grows}
use Rattle.hd_delivery.proofs.laws.links_grow.Goals as goal

pub returns : goal.returns
returns c = grows
