use Rattle.hm_codec.proofs.Controls.{short}
use Rattle.hm_codec.proofs.laws.controls_are_short.Goals as goal

pub returns : goal.returns
returns c = short
