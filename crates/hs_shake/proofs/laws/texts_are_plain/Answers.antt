use Rattle.hs_shake.proofs.Texts.{plain}
use Rattle.hs_shake.proofs.laws.texts_are_plain.Goals as goal

pub returns : goal.returns
returns c = plain
