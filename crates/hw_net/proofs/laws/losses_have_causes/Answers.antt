use Rattle.hw_net.proofs.Losses.{losses-have-causes}
use Rattle.hw_net.proofs.laws.losses_have_causes.Goals as goal

pub returns : goal.returns
returns c = losses-have-causes
