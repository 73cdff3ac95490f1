use Rattle.hs_shake.proofs.Texts.{short}
use Rattle.hs_shake.proofs.laws.texts_are_short.Goals as goal

pub returns : goal.returns
returns c = short
