use Rattle.hv_json.proofs.Control.{no_control}
use Rattle.hv_json.proofs.laws.text_has_no_control.Goals as goal

pub returns : goal.returns
returns c = no_control
