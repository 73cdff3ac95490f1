-- Where the first separator stands.
use Rattle.std.specs.Prelude.{◌≡◌, ◌<◌, ℕ, List, length, take, slice_index, Option, MatchOption}
use Rattle.hf_split.specs.Cuts.{IsPlain, separator}

-- the first separator of these bytes stands at n
pub record IsMarkAt (bytes : List ℕ) (n : ℕ) : Type 0 where
  pub inside : n < length bytes
  pub mark : slice_index bytes n ≡ separator
  pub plain : IsPlain (take n bytes)

-- what a search for the first separator answers
abbrev pub IsFirstMark : List ℕ → Option ℕ → Type 0
IsFirstMark bytes mark = MatchOption mark (IsPlain bytes) (IsMarkAt bytes)
