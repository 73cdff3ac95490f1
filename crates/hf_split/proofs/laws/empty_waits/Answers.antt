use Rattle.hf_split.proofs.Finding.{empty_waits}
use Rattle.hf_split.proofs.laws.empty_waits.Goals as goal

pub returns : goal.returns
returns c = empty_waits
