-- What an end ends as, once the bytes that it lent are given back.
use Rattle.std.specs.Prelude.{⊤}
use Rattle.std.specs.Borrow.{follows_so, MutBor, Fml}
use mathlib.Core.Option.{none}
use Rattle.he_end.specs.declared.end.End.{End}
use Rattle.he_end.specs.contracts.end.End.{the_row}

-- the end ends as P says
abbrev pub EndsAs : MutBor End → (End → Type 0) → Fml
EndsAs e P = follows_so the_row the_row e.ghost_name none (λ _ _. ⊤) P
