use Rattle.hs_shake.proofs.Texts.{refusal_is_read}
use Rattle.hs_shake.proofs.laws.refusals_are_read.Goals as goal

pub returns : goal.returns
returns c = refusal_is_read
