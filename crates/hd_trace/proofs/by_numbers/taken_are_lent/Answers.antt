use Rattle.hd_trace.proofs.Ending.{taken_lent}
use Rattle.hd_trace.proofs.by_numbers.taken_are_lent.Goals as goal

pub returns : goal.returns
returns c = taken_lent c.fed_is_whole.ensures c.worlds_are_histories.ensures c.facts_hold.ensures
