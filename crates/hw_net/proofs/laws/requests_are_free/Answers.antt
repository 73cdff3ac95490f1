use Rattle.hw_net.proofs.Awaiting.{requests-are-free}
use Rattle.hw_net.proofs.laws.requests_are_free.Goals as goal

pub returns : goal.returns
returns c = requests-are-free
