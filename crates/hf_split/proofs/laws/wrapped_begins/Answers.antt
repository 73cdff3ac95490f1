use Rattle.hf_split.proofs.Beginnings.{wrapped_begins}
use Rattle.hf_split.proofs.laws.wrapped_begins.Goals as goal

pub returns : goal.returns
returns c = wrapped_begins
