-- What crates above cite of these definitions.
use Rattle.std.specs.Prelude.{◌≤◌, ◌≡◌, ℕ, true, List}
use Rattle.hd_calls.specs.Numbers.{most_live, most_inputs}
use Rattle.hd_calls.specs.Hubs.{Hub}
use Rattle.hd_calls.specs.Tables.{JobHappening, live_job_in, live_jobs_in, inputs_left_in}
use Rattle.hj_jobs.specs.declared.jobs.Jobs.{Jobs}
use Rattle.hj_jobs.specs.Stands.{Stands}
use Rattle.hj_jobs.specs.Legal.{AreLegal, ActsAreRun, RoundsAreFair}

-- the bounds are kept
pub record AreFew (h : List JobHappening) : Type 0 where
  pub live : live_jobs_in h ≤ most_live
  pub waiting : (j : ℕ) → live_job_in j h ≡ true → inputs_left_in j h ≤ most_inputs

-- if only such things happened as a table's calls allow, what each job did is its run, and rounds are fair
abbrev pub JobsKeepTheirRuns : Type 0 → Type 0
JobsKeepTheirRuns Job = (hub : Hub Job) (who : List ℕ) (h : List JobHappening) → AreLegal hub who h → ActsAreRun hub who h × RoundsAreFair h
