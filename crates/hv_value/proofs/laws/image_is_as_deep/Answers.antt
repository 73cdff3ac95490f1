use Rattle.hv_value.proofs.Images.{depth-image, depth-images}
use Rattle.hv_value.proofs.laws.image_is_as_deep.Goals as goal

pub returns : goal.returns
returns c = record { of_one = depth-image; of_all = depth-images }
