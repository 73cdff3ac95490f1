use Rattle.hd_trace.proofs.Ending.{still}
use Rattle.hd_trace.proofs.by_numbers.still_by_numbers.Goals as goal

pub returns : goal.returns
returns c = still c.fed_is_whole.ensures c.delivery_over_bytes.ensures c.worlds_are_histories.ensures c.facts_hold.ensures c.fed_is_lent.ensures
