use Rattle.hv_value.proofs.Images.{image-image}
use Rattle.hv_value.proofs.laws.image_is_its_own.Goals as goal

pub returns : goal.returns
returns c = image-image
