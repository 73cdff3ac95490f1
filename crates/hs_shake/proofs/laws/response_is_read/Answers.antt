use Rattle.hs_shake.proofs.Texts.{response_accepts}
use Rattle.hs_shake.proofs.laws.response_is_read.Goals as goal

pub returns : goal.returns
returns c = response_accepts
