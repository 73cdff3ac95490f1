use Rattle.hm_codec.proofs.Controls.{said}
use Rattle.hm_codec.proofs.laws.controls_are_said.Goals as goal

pub returns : goal.returns
returns c = said c.written_is_said.ensures c.written_is_said-2.ensures c.text_has_no_control.ensures
