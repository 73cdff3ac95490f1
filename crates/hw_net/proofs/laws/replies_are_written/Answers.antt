use Rattle.hw_net.proofs.Voices.{replies-are-written}
use Rattle.hw_net.proofs.laws.replies_are_written.Goals as goal

pub returns : goal.returns
returns c = replies-are-written
