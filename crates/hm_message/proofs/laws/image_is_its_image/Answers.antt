use Rattle.hm_message.proofs.Images.{image_is_its_image}
use Rattle.hm_message.proofs.laws.image_is_its_image.Goals as goal

pub returns : goal.returns
returns c = image_is_its_image c.image_is_its_own.ensures
