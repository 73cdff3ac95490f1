use Rattle.hm_pack.proofs.Again.{says_again}
use Rattle.hm_pack.proofs.laws.written_is_said.Goals as goal

pub returns : goal.returns
returns c = λ m w. says_again c.values_are_trees.ensures c.shortest_reads_back.ensures m w.fits w.in_range w.in_order w.writable
