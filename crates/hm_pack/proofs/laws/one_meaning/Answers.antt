use Rattle.hm_pack.proofs.Frames.{one_meaning}
use Rattle.hm_pack.proofs.laws.one_meaning.Goals as goal

pub returns : goal.returns
returns c =
    one_meaning c.values_are_trees.ensures c.kinds_have_numbers.ensures c.one_reading.ensures c.one_refusal.ensures c.spelled_is_not_refused.ensures c.is_spelled_or_refused.ensures
