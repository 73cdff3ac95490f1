-- How a job of the calculator is stored.
use Rattle.std.specs.Prelude.{ℕ, pos, nat_le, ◌+◌, ◌-◌, List, [], ◌∷◌, ◌++◌, map, replicate, Option, Some, None, if◌then◌else◌}
use Rattle.std.specs.List.{range_with_len}
use Rattle.hv_value.specs.Tree.{Tree, int}
use Rattle.hm_message.specs.declared.message.Ending.TheVariants as ending
use Rattle.hd_calls.specs.declared.vocabulary.Act.{Act}
use Rattle.hd_calls.specs.declared.vocabulary.Act.TheVariants as act
use Rattle.hub_calc.specs.declared.job.Remaining.{Remaining}
use Rattle.hub_calc.specs.declared.job.Remaining.TheVariants as remaining
use Rattle.hub_calc.specs.declared.job.State.{State}
use Rattle.hub_calc.specs.declared.job.State.TheVariants as state
use Rattle.hub_calc.specs.Table.{Plan, Acts, Sums, item, most_turns}

-- the acts that are left
abbrev pub acts_left : Remaining → List Act
acts_left remaining.Nothing = []
acts_left (remaining.End e) = act.End e ∷ []
acts_left (remaining.Count done last) = map item (range_with_len (done + 1) (last - done)) ++ act.End ending.Void ∷ []
acts_left (remaining.Slow turns v) = replicate turns act.More ++ act.End (ending.Result v) ∷ []
acts_left (remaining.Ask target arguments) = act.Ask target arguments ∷ []

-- what a job that is stored so is to do
abbrev pub plan : State → Plan
plan (state.Acts l) = Acts (acts_left l)
plan (state.Sum sum) = Sums sum

-- a number that Count and Slow take
abbrev pub turns_in : Tree → Option ℕ
turns_in (int (pos n)) = if nat_le n most_turns then Some n else None
turns_in _ = None
