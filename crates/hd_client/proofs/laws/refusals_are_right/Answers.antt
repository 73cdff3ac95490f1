use Rattle.hd_client.proofs.Right.{refusals_are_right}
use Rattle.hd_client.proofs.laws.refusals_are_right.Goals as goal

pub returns : goal.returns
returns c = refusals_are_right
