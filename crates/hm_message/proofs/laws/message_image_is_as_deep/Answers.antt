use Rattle.hm_message.proofs.Images.{image_is_as_deep}
use Rattle.hm_message.proofs.laws.message_image_is_as_deep.Goals as goal

pub returns : goal.returns
returns c = image_is_as_deep c.image_is_as_deep.ensures
