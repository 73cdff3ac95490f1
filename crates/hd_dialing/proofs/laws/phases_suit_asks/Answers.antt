use Rattle.hd_dialing.proofs.Steps.{phases_suit_asks}
use Rattle.hd_dialing.proofs.laws.phases_suit_asks.Goals as goal

pub returns : goal.returns
returns c = phases_suit_asks
