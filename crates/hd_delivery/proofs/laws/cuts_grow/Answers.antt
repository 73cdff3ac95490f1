use Rattle.hd_delivery.proofs.Growth.{cuts_grow}
use Rattle.hd_delivery.proofs.laws.cuts_grow.Goals as goal

pub returns : goal.returns
returns c = cuts_grow
