-- A hub's meaning, of its two ghost members.
use Rattle.std.specs.Prelude.{ℕ}
use Rattle.hd_calls.specs.declared.vocabulary.Call.{Call}
use Rattle.hd_calls.specs.declared.vocabulary.Input.{Input}
use Rattle.hd_calls.specs.declared.vocabulary.Act.{Act}
use Rattle.hd_calls.specs.Hubs.{Hub}

abbrev pub meaning : {Job : Type 0} → (Call → ℕ → Job) → (Job → Input → ℕ → Job × Act) → Hub Job
meaning begin_of step_of = record { begin_of = begin_of; step_of = step_of }
