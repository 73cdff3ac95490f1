use Rattle.hw_net.proofs.DialerEnds.{dialed-drained, dialed-full}
use Rattle.hw_net.proofs.laws.dialed_fullness_is_told.Goals as goal

pub returns-clause-full : goal.returns-clause-full
returns-clause-full c = dialed-full

pub returns-clause-drained : goal.returns-clause-drained
returns-clause-drained c = dialed-drained
