use Rattle.hd_trace.proofs.Unread.{by_numbers}
use Rattle.hd_trace.proofs.by_numbers.unread_by_numbers.Goals as goal

pub returns : goal.returns
returns c = by_numbers c.facts_hold.ensures c.fed_is_cut.ensures c.fed_is_unseen.ensures c.fed_is_whole.ensures
    c.histories_are_in_order.ensures c.unread_grows.ensures c.worlds_are_histories.ensures
