use Rattle.hm_json.proofs.Images.{of_image}
use Rattle.hm_json.proofs.laws.frame_is_of_image.Goals as goal

pub returns : goal.returns
returns c = of_image c.values_are_trees.ensures c.text_is_of_image.ensures
