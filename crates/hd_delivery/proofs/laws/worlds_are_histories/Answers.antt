use Rattle.hd_delivery.proofs.OneHistory.{two_histories}
use Rattle.hd_delivery.proofs.laws.worlds_are_histories.Goals as goal

pub returns : goal.returns
returns c = two_histories
