use Rattle.hd_delivery.proofs.OneHistory.{in_order}
use Rattle.hd_delivery.proofs.laws.histories_are_in_order.Goals as goal

pub returns : goal.returns
returns c = in_order
