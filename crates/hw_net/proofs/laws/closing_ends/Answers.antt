use Rattle.hw_net.proofs.Bounding.{next-in-time}
use Rattle.hw_net.proofs.laws.closing_ends.Goals as goal

pub returns : goal.returns
returns c = next-in-time
