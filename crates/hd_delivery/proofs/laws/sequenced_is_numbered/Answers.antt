use Rattle.hd_delivery.proofs.Unseen.{sequenced_is_numbered}
use Rattle.hd_delivery.proofs.laws.sequenced_is_numbered.Goals as goal

pub returns : goal.returns
returns c = sequenced_is_numbered
