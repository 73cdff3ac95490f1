use Rattle.hv_pack.proofs.Whole.{spelled_is_not_refused}
use Rattle.hv_pack.proofs.laws.spelled_is_not_refused.Goals as goal

pub returns : goal.returns
returns c = spelled_is_not_refused
