use Rattle.hs_shake.proofs.Texts.{request_is_read}
use Rattle.hs_shake.proofs.laws.requests_are_read.Goals as goal

pub returns : goal.returns
returns c = request_is_read
