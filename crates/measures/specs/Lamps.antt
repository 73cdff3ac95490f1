-- The meaning of the hub of lamps: the job of a call is its moment. At 0 it waits, and otherwise it goes on.
use Rattle.std.specs.Prelude.{ℕ, ◌==◌, if◌then◌else◌}
use Rattle.hd_calls.specs.declared.vocabulary.Call.{Call}
use Rattle.hd_calls.specs.declared.vocabulary.Input.{Input}
use Rattle.hd_calls.specs.declared.vocabulary.Act.{Act}
use Rattle.hd_calls.specs.declared.vocabulary.Act.TheVariants.{More, Wait}

abbrev pub lamp_begin : Call → ℕ → ℕ
lamp_begin call now = now

abbrev pub lamp_step : ℕ → Input → ℕ → ℕ × Act
lamp_step job input now = (job, (if job == 0 then Wait else More))
