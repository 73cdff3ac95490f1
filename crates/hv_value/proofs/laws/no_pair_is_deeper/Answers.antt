use Rattle.hv_value.proofs.Depths.{depth_of_pair_at}
use Rattle.hv_value.proofs.laws.no_pair_is_deeper.Goals as goal

pub returns : goal.returns
returns c = depth_of_pair_at
