use Rattle.hv_value.proofs.Depths.{depth_at}
use Rattle.hv_value.proofs.laws.no_item_is_deeper.Goals as goal

pub returns : goal.returns
returns c = depth_at
