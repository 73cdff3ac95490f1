use Rattle.hv_json.proofs.Again.{written_again}
use Rattle.hv_json.proofs.laws.written_is_read_again.Goals as goal

pub returns : goal.returns
returns c = written_again c.pairs_in_order_are_their_map.ensures
