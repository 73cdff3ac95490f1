-- A job that has given some numbers gives the next ones: an induction on the turns.
use Rattle.std.proofs.Common.{◌≡◌, ◌≤◌, ℕ, ◌+◌, true, nat_lt, List, [], ◌∷◌, map, length, refl, arith}
use Rattle.std.specs.List.{range_with_len}
use Rattle.std.proofs.lemmas.Bool.Decides.{nat_tests}
use Rattle.hd_calls.specs.Rules.{run}
use Rattle.hub_counter.specs.declared.CounterJob.TheVariants.{Counting}
use Rattle.hub_counter.specs.Counter.{last_number, counter_hub, goes, item}
use Rattle.hub_counter.proofs.next_counts.Goals as goal

goes_on_counting : (given : ℕ) (times : List ℕ) → given + length times ≤ last_number
    → run counter_hub (Counting given) (goes times) ≡ map item (range_with_len (given + 1) (length times))
goes_on_counting given [] few = refl
goes_on_counting given (now ∷ times) few =
    let below : nat_lt given last_number ≡ true = grind (arith, nat_tests) in
    let later : (given + 1) + length times ≤ last_number = omega arith in
    rw (below, goes_on_counting (given + 1) times later) refl

pub returns : goal.returns
returns c = λ call since times next stream few. rw (next, stream) (goes_on_counting 0 times (omega arith))
