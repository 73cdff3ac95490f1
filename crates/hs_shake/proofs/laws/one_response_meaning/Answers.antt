use Rattle.hs_shake.proofs.Meanings.{one_response}
use Rattle.hs_shake.proofs.laws.one_response_meaning.Goals as goal

pub returns : goal.returns
returns c = one_response
