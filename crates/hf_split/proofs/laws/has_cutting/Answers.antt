use Rattle.hf_split.proofs.Streams.{has_cutting}
use Rattle.hf_split.proofs.laws.has_cutting.Goals as goal

pub returns : goal.returns
returns c = has_cutting
