-- What a message's headers are.
use Rattle.std.specs.Prelude.{ℕ, List, Option}
use Rattle.std.specs.List.Sorted.{IsStrictlySortedBy}
use Rattle.std.specs.Map.{keys_of, lookup}
use Rattle.hv_value.specs.Tree.{key_cmp, is_key}

abbrev pub Header : Type 0
Header = List ℕ × List ℕ

-- the keys are distinct and in byte order
abbrev pub IsHeaders : List Header → Type 0
IsHeaders hs = IsStrictlySortedBy key_cmp (keys_of hs)

-- the value in the first pair of a key
abbrev pub header_at : List ℕ → List Header → Option (List ℕ)
header_at key hs = lookup (is_key key) hs
