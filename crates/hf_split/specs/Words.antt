-- A fault in words.
use Rattle.std.specs.Prelude.{ℕ, List, codes}
use Rattle.hf_split.specs.declared.splitter.SplitFault.{SplitFault}
use Rattle.hf_split.specs.declared.splitter.SplitFault.TheVariants.{TooLong, BadLength}

-- the word for a fault, which leaves its place out
abbrev pub fault_words : SplitFault → List ℕ
fault_words (TooLong at) = codes "TooLong"
fault_words (BadLength at) = codes "BadLength"
