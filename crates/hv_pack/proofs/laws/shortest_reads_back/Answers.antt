use Rattle.hv_pack.proofs.Whole.{shortest_reads_back}
use Rattle.hv_pack.proofs.laws.shortest_reads_back.Goals as goal

pub returns : goal.returns
returns c = shortest_reads_back c.pairs_in_order_are_their_map.ensures
