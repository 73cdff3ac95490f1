use Rattle.hm_message.proofs.Numbering.{kinds_have_numbers}
use Rattle.hm_message.proofs.laws.kinds_have_numbers.Goals as goal

pub returns : goal.returns
returns c = kinds_have_numbers
