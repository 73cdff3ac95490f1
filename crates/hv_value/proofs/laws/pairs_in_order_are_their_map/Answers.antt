use Rattle.hv_value.proofs.Orders.{map_of-sorted}
use Rattle.hv_value.proofs.laws.pairs_in_order_are_their_map.Goals as goal

pub returns : goal.returns
returns c = map_of-sorted
