use Rattle.hv_pack.proofs.Whole.{one_reading}
use Rattle.hv_pack.proofs.laws.one_reading.Goals as goal

pub returns : goal.returns
returns c = one_reading
