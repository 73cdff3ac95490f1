-- What a session ends as, once the bytes that it lent are given back.
use Rattle.std.specs.Prelude.{⊤}
use Rattle.std.specs.Borrow.{follows_so, MutBor, Fml}
use mathlib.Core.Option.{none}
use Rattle.he_end.specs.declared.session.Session.{Session}
use Rattle.he_end.specs.contracts.session.Session.{the_row}

-- the session ends as P says
abbrev pub EndsAs : MutBor Session → (Session → Type 0) → Fml
EndsAs session P = follows_so the_row the_row session.ghost_name none (λ _ _. ⊤) P
