use Rattle.hw_net.proofs.DialerAfter.{nothing-is-heard-after}
use Rattle.hw_net.proofs.DialerEnds.{dialed-losses, undialed-missed}
use Rattle.hw_net.proofs.laws.dialed_losses_have_causes.Goals as goal

pub returns-clause-causes : goal.returns-clause-causes
returns-clause-causes c = dialed-losses

pub returns-clause-missed : goal.returns-clause-missed
returns-clause-missed c = undialed-missed

pub returns-clause-last : goal.returns-clause-last
returns-clause-last c = nothing-is-heard-after
