use Rattle.hf_split.proofs.Beginnings.{wrapped_is_shortest}
use Rattle.hf_split.proofs.laws.wrapped_is_shortest.Goals as goal

pub returns : goal.returns
returns c = wrapped_is_shortest
