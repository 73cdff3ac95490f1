-- The counter's one method, and what whole runs of it are.
use Rattle.std.specs.Prelude.{◌≡◌, ◌≤◌, ℕ, pos, ◌+◌, nat_lt, List, map, length, codes, if◌then◌else◌}
use Rattle.std.specs.List.{range_with_len}
use Rattle.hv_value.specs.declared.value.Value.TheVariants as value
use Rattle.hm_message.specs.Same.{same_text}
use Rattle.hm_message.specs.declared.message.Ending.TheVariants as ending
use Rattle.hd_calls.specs.declared.vocabulary.Call as as_given
use Rattle.hd_calls.specs.declared.vocabulary.CallKind.{CallKind}
use Rattle.hd_calls.specs.declared.vocabulary.CallKind.TheVariants as kind
use Rattle.hd_calls.specs.declared.vocabulary.Input.{Input}
use Rattle.hd_calls.specs.declared.vocabulary.Input.TheVariants as input
use Rattle.hd_calls.specs.declared.vocabulary.Act.{Act}
use Rattle.hd_calls.specs.declared.vocabulary.Act.TheVariants as act
use Rattle.hd_calls.specs.Hubs.{Hub, Turn, Given}
use Rattle.hd_calls.specs.Rules.{run}
use Rattle.hub_counter.specs.declared.CounterJob.{CounterJob}
use Rattle.hub_counter.specs.declared.CounterJob.TheVariants.{Refused, Counting}

-- the last number that Next gives
abbrev pub last_number : ℕ
last_number = 1000000

-- a call of Next: it is a stream
abbrev pub next_begin : CallKind → CounterJob
next_begin kind.Stream = Counting 0
next_begin _ = Refused (codes "A stream.")

-- the job of a call, by its target and then its kind. Arguments are ignored
abbrev pub counter_begin : as_given.Call → ℕ → CounterJob
counter_begin call now = if same_text call.target (codes "Next") then next_begin call.kind else Refused (codes "Unknown method.")

-- a number as an item
abbrev pub item : ℕ → Act
item n = act.Item (value.Int (pos n))

-- a turn: the job after it, and its act
abbrev pub counter_step : CounterJob → Input → ℕ → CounterJob × Act
counter_step (Refused error) i now = (Refused error, act.End (ending.Error error))
counter_step (Counting given) i now = if nat_lt given last_number then (Counting (given + 1), item (given + 1)) else (Counting given, act.End ending.Void)

-- the hub
abbrev pub counter_hub : Hub CounterJob
counter_hub = record { begin_of = counter_begin; step_of = counter_step }

-- turns at these moments at which a job is given nothing
abbrev pub goes : List ℕ → List Turn
goes times = map (λ now. Given input.Go now) times

-- a job of Next gives the numbers from 1 on, one at each turn
abbrev pub NextCounts : Type 0
NextCounts = (call : as_given.Call) (since : ℕ) (times : List ℕ) → call.target ≡ codes "Next" → call.kind ≡ kind.Stream → length times ≤ last_number
    → run counter_hub (counter_begin call since) (goes times) ≡ map item (range_with_len 1 (length times))
