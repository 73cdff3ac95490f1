use Rattle.hf_split.proofs.Beginnings.{too_long_begins_none}
use Rattle.hf_split.proofs.laws.too_long_begins_none.Goals as goal

pub returns : goal.returns
returns c = too_long_begins_none
