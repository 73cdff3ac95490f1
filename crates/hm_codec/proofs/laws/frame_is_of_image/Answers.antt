use Rattle.hm_codec.proofs.Controls.{of_image}
use Rattle.hm_codec.proofs.laws.frame_is_of_image.Goals as goal

pub returns : goal.returns
returns c = of_image c.frame_is_of_image.ensures
