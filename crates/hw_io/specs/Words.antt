-- A fault of the outside in words.
use Rattle.std.specs.Prelude.{ℕ, List, codes}

-- what is told of a fault, which says no more of itself
abbrev pub failed_words : List ℕ
failed_words = codes "the outside failed"
