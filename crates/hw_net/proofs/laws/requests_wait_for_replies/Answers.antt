use Rattle.hw_net.proofs.Counting.{requests-wait}
use Rattle.hw_net.proofs.laws.requests_wait_for_replies.Goals as goal

pub returns : goal.returns
returns c = requests-wait
