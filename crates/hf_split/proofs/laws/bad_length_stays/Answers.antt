use Rattle.hf_split.proofs.Beginnings.{bad_length_stays}
use Rattle.hf_split.proofs.laws.bad_length_stays.Goals as goal

pub returns : goal.returns
returns c = bad_length_stays
