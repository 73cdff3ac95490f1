use Rattle.hd_delivery.proofs.Unseen.{fed_is_unseen}
use Rattle.hd_delivery.proofs.laws.fed_is_unseen.Goals as goal

pub returns : goal.returns
returns c = fed_is_unseen
