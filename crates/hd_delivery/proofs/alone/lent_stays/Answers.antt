use Rattle.hd_delivery.proofs.LentBytes.{stays}
use Rattle.hd_delivery.proofs.alone.lent_stays.Goals as goal

pub returns : goal.returns
returns c = stays c.facts_hold.ensures
