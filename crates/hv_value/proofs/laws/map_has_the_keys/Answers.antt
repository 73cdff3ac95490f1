use Rattle.hv_value.proofs.Orders.{keys_of_pairs-pairs}
use Rattle.hv_value.proofs.laws.map_has_the_keys.Goals as goal

pub returns : goal.returns
returns c = keys_of_pairs-pairs
