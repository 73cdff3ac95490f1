use Rattle.hv_pack.proofs.Whole.{is_spelled_or_refused}
use Rattle.hv_pack.proofs.laws.is_spelled_or_refused.Goals as goal

pub returns : goal.returns
returns c = is_spelled_or_refused
