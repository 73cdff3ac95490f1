use Rattle.hv_value.proofs.Depths.{deepest_push}
use Rattle.hv_value.proofs.laws.depth_of_one_more_item.Goals as goal

pub returns : goal.returns
returns c = deepest_push
