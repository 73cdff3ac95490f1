-- Lots in memory, as contracts see them.
use Rattle.std.specs.Prelude.{ℕ, zero, suc, ◌+◌, ◌-◌, ◌^◌, ◌==◌, Bool, List, [], ◌∷◌, ◌++◌, Option, Some, None, Result, Ok, Err, if◌then◌else◌, slice_get}
use Rattle.hd_facts.specs.Counts.{one_more}
use Rattle.hw_io.specs.declared.traits.Failed.{Failed}
use Rattle.hw_door.specs.Calls.{is_listed}

-- the draws to give, the numbers of the calls that are to fail, the number of the next call, and the count of faults
pub record MemoryDraws : Type 0 where
  pub draws : List (List ℕ)
  pub failing : List ℕ
  pub calls : ℕ
  pub faults : ℕ

-- how many of the calls before this one weren't to fail, so the place of the draw that this one gives
abbrev pub place_of : List ℕ → ℕ → ℕ
place_of failing zero = 0
place_of failing (suc call) = if is_listed failing call then place_of failing call else place_of failing call + 1

-- the draw that the call of this number gives, or None if it fails: it is to, or all draws were given
abbrev pub draw_at : List (List ℕ) → List ℕ → ℕ → Option (List ℕ)
draw_at draws failing call = if is_listed failing call then None else slice_get draws (place_of failing call)

-- what the first calls gave
abbrev pub first_draws : List (List ℕ) → List ℕ → ℕ → List (Option (List ℕ))
first_draws draws failing zero = []
first_draws draws failing (suc call) = first_draws draws failing call ++ draw_at draws failing call ∷ []

-- no call can be counted any more
abbrev pub are_spent : MemoryDraws → Bool
are_spent lots = lots.calls == 2 ^ 64 - 1

-- what lots tell, until they are spent
abbrev pub drawn_by : MemoryDraws → Option (List (Option (List ℕ)))
drawn_by lots = if are_spent lots then None else Some (first_draws lots.draws lots.failing lots.calls)

-- what the next call of lots gives, if it doesn't fail
abbrev pub next_draw : MemoryDraws → Option (List ℕ)
next_draw lots = if are_spent lots then None else draw_at lots.draws lots.failing lots.calls

-- the lots after a call with this result
abbrev pub lots_after : Result (List ℕ) Failed → MemoryDraws → MemoryDraws
lots_after (Ok draw) lots = record lots { calls = one_more lots.calls }
lots_after (Err why) lots = record lots { calls = one_more lots.calls; faults = one_more lots.faults }
