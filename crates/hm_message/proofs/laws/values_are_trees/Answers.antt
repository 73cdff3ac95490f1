use Rattle.hm_message.proofs.Images.{values_are_trees}
use Rattle.hm_message.proofs.laws.values_are_trees.Goals as goal

pub returns : goal.returns
returns c = values_are_trees
