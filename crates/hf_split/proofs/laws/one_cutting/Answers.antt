use Rattle.hf_split.proofs.Streams.{one_cutting}
use Rattle.hf_split.proofs.laws.one_cutting.Goals as goal

pub returns : goal.returns
returns c = one_cutting
