use Rattle.hd_delivery.proofs.FedAndCut.{fed_is_cut}
use Rattle.hd_delivery.proofs.laws.fed_is_cut.Goals as goal

pub returns : goal.returns
returns c = fed_is_cut
