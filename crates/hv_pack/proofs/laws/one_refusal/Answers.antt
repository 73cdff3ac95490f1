use Rattle.hv_pack.proofs.Whole.{one_refusal}
use Rattle.hv_pack.proofs.laws.one_refusal.Goals as goal

pub returns : goal.returns
returns c = one_refusal
