-- The table of the calculator's methods: what each does for its arguments, and what a job does at a turn.
use Rattle.std.specs.Prelude.{ℕ, ℤ, pos, negsuc, ◌+ℤ◌, ◌^◌, nat_lt, nat_le, Bool, List, [], ◌∷◌, ◌++◌, map, replicate, Option, Some, None, Result, Ok, Err, codes, if◌then◌else◌}
use Rattle.std.specs.List.{range_with_len}
use Rattle.hv_value.specs.Tree.{Tree, int, text}
use Rattle.hv_value.specs.declared.value.Value.{Value}
use Rattle.hv_value.specs.declared.value.Value.TheVariants as value
use Rattle.hm_message.specs.Message.{value_of}
use Rattle.hm_message.specs.declared.message.Ending.{Ending}
use Rattle.hm_message.specs.declared.message.Ending.TheVariants as ending
use Rattle.hd_calls.specs.declared.vocabulary.Call as as_given
use Rattle.hd_calls.specs.declared.vocabulary.Input.{Input}
use Rattle.hd_calls.specs.declared.vocabulary.Input.TheVariants as input
use Rattle.hd_calls.specs.declared.vocabulary.Act.{Act}
use Rattle.hd_calls.specs.declared.vocabulary.Act.TheVariants as act
use Rattle.hd_calls.specs.Hubs.{Hub}
use Rattle.hub_calc.specs.declared.refusal.Refusal.{Refusal}
use Rattle.hub_calc.specs.declared.refusal.Refusal.TheVariants.{UnknownMethod, WrongArguments}
use Rattle.hub_calc.specs.declared.method.Method.{Method}
use Rattle.hub_calc.specs.declared.method.Method.TheVariants.{Echo, Add, Count, Sum, Slow, Fail, Ask}
use Rattle.hub_calc.specs.Refusals.{refusal_text, tested}
use Rattle.hub_calc.specs.Methods.{methods, named, is_stream, uploads_of}

-- what a job is to do
pub data Plan : Type 0 where
  Acts : (left : List Act) → Plan  -- these acts, one at each turn, whatever it is given
  Sums : (sum : ℤ) → Plan  -- to add to this sum what is uploaded

-- ---- what is given and what comes of it

-- whether a number is one that a value can hold: from -2^63 to 2^64 - 1
abbrev pub is_whole : ℤ → Bool
is_whole (pos n) = nat_lt n (2 ^ 64)
is_whole (negsuc n) = nat_lt n (2 ^ 63)

-- the ending with a sum, if it is in range
abbrev pub sum_ending : ℤ → Ending
sum_ending z = if is_whole z then ending.Result (value.Int z) else ending.Error (codes "Out of range.")

-- the greatest number that Count and Slow take
abbrev pub most_turns : ℕ
most_turns = 1000000

-- a number as an item
abbrev pub item : ℕ → Act
item n = act.Item (value.Int (pos n))

-- the items from 1 to n
abbrev pub items_to : ℕ → List Act
items_to n = map item (range_with_len 1 n)

-- to end so at the first turn
abbrev pub ends : Ending → Plan
ends e = Acts (act.End e ∷ [])

-- ---- the table

-- what a method does for these arguments, if they are right
abbrev pub row : Method → List Tree → Option Plan
row Echo (v ∷ []) = Some (ends (ending.Result (value_of v)))
row Add (int a ∷ int b ∷ []) = Some (ends (sum_ending (a +ℤ b)))
row Count (int (pos n) ∷ []) = if nat_le n most_turns then Some (Acts (items_to n ++ act.End ending.Void ∷ [])) else None
row Sum [] = Some (Sums (pos 0))
row Slow (int (pos n) ∷ v ∷ []) =
    if nat_le n most_turns then Some (Acts (replicate n act.More ++ act.End (ending.Result (value_of v)) ∷ [])) else None
row Fail (text t ∷ []) = Some (ends (ending.Error t))
row Ask (text t ∷ v ∷ []) = Some (Acts (act.Ask t (v ∷ []) ∷ []))
row _ _ = None

-- what a call is for that names this method, or none: the target is tested before the kind, the uploads and the arguments
abbrev pub of_method : Option Method → as_given.Call → Result Plan Refusal
of_method None call = Err UnknownMethod
of_method (Some m) call = tested (is_stream m) (uploads_of m) call (row m call.arguments)

-- a refused call's job ends with the refusal's text
abbrev pub plan_of : Result Plan Refusal → Plan
plan_of (Ok plan) = plan
plan_of (Err why) = ends (ending.Error (refusal_text why))

-- the job that a call begins
abbrev pub calc_begin : as_given.Call → ℕ → Plan
calc_begin call now = plan_of (of_method (named call.target methods) call)

-- ---- turns

-- one more value of an upload: the sum is in range, or it is not, or the value is no whole number
abbrev pub add_item : ℤ → Value → Plan × Act
add_item sum (value.Int z) =
    if is_whole (sum +ℤ z) then (Sums (sum +ℤ z), act.Wait) else (Acts [], act.End (ending.Error (codes "Out of range.")))
add_item sum v = (Acts [], act.End (ending.Error (refusal_text WrongArguments)))

-- how a sum ends whose upload has ended, with an error or without one
abbrev pub end_sum : ℤ → Option (List ℕ) → Ending
end_sum sum None = ending.Result (value.Int sum)
end_sum sum (Some e) = ending.Error e

-- a turn: what the job is to do then, and its act. A job whose last act was to ask ends as the call did for which it asked
abbrev pub turn : Plan → Input → Plan × Act
turn (Acts (a ∷ left)) i = (Acts left, a)
turn (Acts []) (input.Asked e) = (Acts [], act.End e)
turn (Acts []) i = (Acts [], act.End ending.Void)  -- no job has this turn
turn (Sums sum) (input.Item which v) = add_item sum v
turn (Sums sum) (input.StreamEnd which error) = (Acts [], act.End (end_sum sum error))
turn (Sums sum) i = (Sums sum, act.Wait)

-- at any moment
abbrev pub calc_step : Plan → Input → ℕ → Plan × Act
calc_step plan i now = turn plan i

-- the hub
abbrev pub calc_hub : Hub Plan
calc_hub = record { begin_of = calc_begin; step_of = calc_step }
