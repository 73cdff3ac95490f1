use Rattle.hm_json.proofs.Frames.{one_meaning}
use Rattle.hm_json.proofs.laws.one_meaning.Goals as goal

pub returns : goal.returns
returns c = one_meaning c.values_are_trees.ensures c.kinds_have_numbers.ensures c.reading_takes_no_memory.ensures
