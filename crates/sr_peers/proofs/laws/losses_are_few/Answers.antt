use Rattle.sr_peers.proofs.Losses.{losses_are_few}
use Rattle.sr_peers.proofs.laws.losses_are_few.Goals as goal

pub returns : goal.returns
returns c = losses_are_few
