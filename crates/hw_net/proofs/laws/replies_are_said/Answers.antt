use Rattle.hw_net.proofs.Said.{replies-are-said}
use Rattle.hw_net.proofs.laws.replies_are_said.Goals as goal

pub returns : goal.returns
returns c = replies-are-said
