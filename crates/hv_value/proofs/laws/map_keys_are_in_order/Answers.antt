use Rattle.hv_value.proofs.Keys.{keys_in_order}
use Rattle.hv_value.proofs.laws.map_keys_are_in_order.Goals as goal

pub returns : goal.returns
returns c = keys_in_order
