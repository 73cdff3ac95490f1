-- What a table counts for the weights of what its jobs keep. A value may be heavier than any number that a table can hold, so a call, an input or
-- an answer counts at most `most_counted`. As that is more than all may weigh together, a sum of such counts is the sum of the weights up to the
-- bound, and passes it where that does.
use Rattle.std.specs.Prelude.{◌≡◌, ◌+◌, ◌<◌, ◌≤◌, ◌^◌, min, ℕ, List, [], ◌∷◌, Option, Some, None}
use Rattle.hd_calls.specs.declared.vocabulary.Call as as_given
use Rattle.hd_calls.specs.declared.vocabulary.Input.{Input}
use Rattle.hd_calls.specs.Hubs.{Invoked}
use Rattle.hd_calls.specs.Weights.{id_weight, text_weight, ids_weight, arguments_weight, call_weight, input_weight}

-- the most that one call, input or answer counts
abbrev pub most_counted : ℕ
most_counted = 2 ^ 32

-- what a weight counts
abbrev pub counted : ℕ → ℕ
counted w = min w most_counted

-- the weight of a call as the hub is given it
abbrev pub weight_as_given : as_given.Call → ℕ
weight_as_given c = id_weight c.id + (text_weight c.target + (ids_weight c.streams + arguments_weight c.arguments))

-- what an input counts, where there is one
abbrev pub input_count : Option Input → ℕ
input_count None = 0
input_count (Some i) = counted (input_weight i)

-- what these inputs count together
abbrev pub inputs_count : List Input → ℕ
inputs_count [] = 0
inputs_count (i ∷ is) = counted (input_weight i) + inputs_count is

-- what is kept of a job counts: its call, the inputs that wait at it, and what has answered its ask
abbrev pub job_count : Option Invoked → List Input → Option Input → ℕ
job_count None inputs reply = 0
job_count (Some c) inputs reply = counted (call_weight c) + (inputs_count inputs + input_count reply)

-- a number to which this much was added, if it fits
abbrev pub Adds : ℕ → ℕ → ℕ → Type 0
Adds old new much = old + much < 2 ^ 64 → new ≡ old + much

-- a number from which this much was taken, if it had that
abbrev pub Takes : ℕ → ℕ → ℕ → Type 0
Takes old new much = much ≤ old → new + much ≡ old

-- a sum in which one part was replaced by another, if it had the one and the other fits
abbrev pub Swaps : ℕ → ℕ → ℕ → ℕ → Type 0
Swaps old new before after = before ≤ old → old + after < 2 ^ 64 → new + before ≡ old + after
