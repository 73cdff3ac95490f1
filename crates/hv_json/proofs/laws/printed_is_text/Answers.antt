use Rattle.hv_json.proofs.Again.{printed}
use Rattle.hv_json.proofs.laws.printed_is_text.Goals as goal

pub returns : goal.returns
returns c = printed
