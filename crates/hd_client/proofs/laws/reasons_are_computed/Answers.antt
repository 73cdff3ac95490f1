use Rattle.hd_client.proofs.Reasons.{reasons_are_computed}
use Rattle.hd_client.proofs.laws.reasons_are_computed.Goals as goal

pub returns : goal.returns
returns c = reasons_are_computed
