use Rattle.hm_json.proofs.Puts.{says_well_formed}
use Rattle.hm_json.proofs.laws.written_is_said.Goals as goal

pub returns : goal.returns
returns c = says_well_formed c.values_are_trees.ensures c.last_pair_counts.ensures c.text_is_read_again.ensures
