use Rattle.sr_notation.proofs.Cuts.{one_split, no_space, decimal_word}
use Rattle.sr_notation.proofs.laws.words_are_cut_once.Goals as goal

pub returns : goal.returns
returns c = record {
  one_cut = λ a b x y p q e. one_split a b x y p q e;
  no_cut = λ a b x p e. no_space a b x p e;
  digits = λ n small. decimal_word n small;
}
