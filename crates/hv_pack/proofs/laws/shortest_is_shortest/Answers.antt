use Rattle.hv_pack.proofs.Writable.{shortest_spells}
use Rattle.hv_pack.proofs.laws.shortest_is_shortest.Goals as goal

pub returns : goal.returns
returns c = shortest_spells c.map_has_the_keys.ensures c.map_keys_are_in_order.ensures c.pairs_in_order_are_their_map.ensures
