-- What a buffer ends as, once a frame that it lent is given back.
use Rattle.std.specs.Prelude.{⊤}
use Rattle.std.specs.Borrow.{follows_so, MutBor, Fml}
use mathlib.Core.Option.{none}
use Rattle.hq_resend.specs.Buffers.{Buffer}
use Rattle.hq_resend.specs.contracts.resend.Resend.{the_row}

-- the buffer ends as P says
abbrev pub EndsAs : MutBor Buffer → (Buffer → Type 0) → Fml
EndsAs resend P = follows_so the_row the_row resend.ghost_name none (λ _ _. ⊤) P
