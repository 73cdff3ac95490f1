use Rattle.sr_notation.proofs.Options.{same_words}
use Rattle.sr_notation.proofs.laws.limits_are_told_once.Goals as goal

pub returns : goal.returns
returns c = λ limits others are are' same. same_words limits others are are' same
