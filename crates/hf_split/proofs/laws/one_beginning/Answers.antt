use Rattle.hf_split.proofs.Beginnings.{one_beginning}
use Rattle.hf_split.proofs.laws.one_beginning.Goals as goal

pub returns : goal.returns
returns c = one_beginning
