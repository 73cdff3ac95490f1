use Rattle.hd_trace.proofs.Taking.{next_fed}
use Rattle.hd_trace.proofs.by_numbers.next_is_fed.Goals as goal

pub returns : goal.returns
returns c = next_fed c.fed_is_whole.ensures
