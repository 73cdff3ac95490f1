use Rattle.hf_split.proofs.Streams.{begins_once}
use Rattle.hf_split.proofs.laws.begins_once.Goals as goal

pub returns : goal.returns
returns c = begins_once
