-- Numbers that rise.
use Rattle.std.specs.Prelude.{◌≤◌, ◌+◌, ℕ, List, [], ◌∷◌}

-- numbers that rise, from this one on and below that
abbrev pub IsRising : ℕ → ℕ → List ℕ → Type 0
IsRising from bound [] = from ≤ bound
IsRising from bound (wire ∷ wires) = (from ≤ wire) × IsRising (wire + 1) bound wires

-- the same below any number
abbrev pub Rise : List ℕ → Type 0
Rise wires = (bound : ℕ) × IsRising 0 bound wires
