use Rattle.hv_value.proofs.Depths.{deepest_push_pair}
use Rattle.hv_value.proofs.laws.depth_of_one_more_pair.Goals as goal

pub returns : goal.returns
returns c = deepest_push_pair
