use Rattle.hw_net.proofs.Reaching.{others-listen, lanes-are-reached}
use Rattle.hw_net.proofs.laws.lanes_are_reached.Goals as goal

pub returns-clause-listens : goal.returns-clause-listens
returns-clause-listens c = others-listen

pub returns-clause-reached : goal.returns-clause-reached
returns-clause-reached c = lanes-are-reached
