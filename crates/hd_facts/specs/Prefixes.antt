-- Prefixes of lists.
use Rattle.std.specs.Prelude.{◌≡◌, List, ◌++◌}

-- ys begins with xs, and may be xs itself
abbrev pub IsPrefix : {A : Type 0} → List A → List A → Type 0
IsPrefix {A} xs ys = (rest : List A) × (xs ++ rest ≡ ys)
