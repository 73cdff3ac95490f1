use Rattle.hs_shake.proofs.Meanings.{one_request}
use Rattle.hs_shake.proofs.laws.one_request_meaning.Goals as goal

pub returns : goal.returns
returns c = one_request
