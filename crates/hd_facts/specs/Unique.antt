-- The one value of which a fact holds.
use Rattle.std.specs.Prelude.{◌≡◌}

-- the fact holds of this value, and of no other
pub record IsTheOne {A : Type 0} (P : A → Type 0) (value : A) : Type 0 where
  pub holds : P value
  pub only : (other : A) → P other → other ≡ value
