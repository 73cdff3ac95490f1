use Rattle.hw_net.proofs.DialerEnds.{dialed-bounded}
use Rattle.hw_net.proofs.laws.dialed_lanes_are_bounded.Goals as goal

pub returns : goal.returns
returns c = dialed-bounded
