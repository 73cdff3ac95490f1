use Rattle.hd_trace.proofs.Feeding.{by_numbers}
use Rattle.hd_trace.proofs.by_numbers.feeds_by_numbers.Goals as goal

pub returns : goal.returns
returns c = by_numbers c.worlds_are_histories.ensures c.unread_grows.ensures c.fed_is_lent.ensures
