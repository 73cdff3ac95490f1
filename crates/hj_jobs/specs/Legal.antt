-- Which happenings may come next to a table of jobs, and what holds of jobs and rounds if only such came.
use Rattle.std.specs.Prelude.{◌≡◌, ◌<◌, ◌≤◌, ℕ, suc, Bool, true, false, ◌==◌, List, [], ◌∷◌, ◌++◌, Option, Some, None, slice_get, if◌then◌else◌}
use Rattle.hd_calls.specs.declared.vocabulary.Act.{Act}
use Rattle.hd_calls.specs.Numbers.{most_live, most_inputs}
use Rattle.hd_calls.specs.Hubs.{Invoked, Hub, Turn, call_for}
use Rattle.hd_calls.specs.Rules.{act_at, job_after, run}
use Rattle.hd_calls.specs.Tables.{JobHappening, Accepted, Came, Marked, Turned, Ended, Replied, Round, begun_in, moments_in, turns_in, acts_in, marked_in, passed_in, live_job_in, live_jobs_in, inputs_left_in, in_use_in, is_due_in, next_job_in}
use Rattle.hj_jobs.specs.Stands.{HasId, StreamIn}
use Rattle.hj_jobs.specs.Calls.{AwaitsAnswer, IsTurnIn}

-- the answer came on an open stream with room
pub record MayCome (h : List JobHappening) (j w : ℕ) : Type 0 where
  pub id : List ℕ
  pub at : StreamIn h id j w
  pub few : inputs_left_in j h < most_inputs

-- the job is live, has an id, and isn't marked
pub record MayMark (h : List JobHappening) (j : ℕ) : Type 0 where
  pub id : List ℕ
  pub has_id : HasId h id j
  pub unmarked : marked_in j h ≡ false

-- the turn is that of the next job of the round, which does what its hub means
pub record MayTurn {Job : Type 0} (hub : Hub Job) (who : List ℕ) (h : List JobHappening) (j : ℕ) (turn : Turn) (what : Act) : Type 0 where
  pub call : Invoked
  pub since : ℕ
  pub now : ℕ
  pub next : next_job_in h ≡ Some j
  pub at : slice_get (begun_in h) j ≡ Some call
  pub began : slice_get (moments_in h) j ≡ Some since
  pub due : IsTurnIn h j now turn
  pub does : what ≡ act_at hub (job_after hub (hub.begin_of (call_for who call) since) (turns_in j h)) turn

-- the happening may come next
abbrev pub MayHappen : {Job : Type 0} → Hub Job → List ℕ → List JobHappening → JobHappening → Type 0
MayHappen hub who h (Accepted c now) = (in_use_in c h ≡ false) × (live_jobs_in h < most_live)
MayHappen hub who h (Came j w a) = MayCome h j w
MayHappen hub who h (Marked j) = MayMark h j
MayHappen hub who h (Turned j turn what) = MayTurn hub who h j turn what
MayHappen hub who h (Ended j) = live_job_in j h ≡ true
MayHappen hub who h (Replied j i) = AwaitsAnswer h j i
MayHappen hub who h Round = Unit {0}

-- each may have come after those before it
abbrev pub AreLegal : {Job : Type 0} → Hub Job → List ℕ → List JobHappening → Type 0
AreLegal hub who [] = Unit {0}
AreLegal hub who (d ∷ h) = AreLegal hub who h × MayHappen hub who h d

-- ---- jobs

-- what each job did is what its hub means for the turns that it had, up to its end
abbrev pub ActsAreRun : {Job : Type 0} → Hub Job → List ℕ → List JobHappening → Type 0
ActsAreRun hub who h = (j : ℕ) (c : Invoked) (since : ℕ) → slice_get (begun_in h) j ≡ Some c → slice_get (moments_in h) j ≡ Some since
    → acts_in j h ≡ run hub (hub.begin_of (call_for who c) since) (turns_in j h)

-- ---- rounds

-- how many turns a job had in the present round
abbrev pub turns_this_round : ℕ → List JobHappening → ℕ
turns_this_round j [] = 0
turns_this_round j (Round ∷ h) = 0
turns_this_round j (Turned k turn what ∷ h) = if j == k then suc (turns_this_round j h) else turns_this_round j h
turns_this_round j (_ ∷ h) = turns_this_round j h

-- no job has two turns in a round; none that is due is passed over; and where no turn is left, each job that is due lies before the place of the round
pub record RoundsAreFair (h : List JobHappening) : Type 0 where
  pub once : (j : ℕ) → turns_this_round j h ≤ 1
  pub in_order : (ds k : List JobHappening) (j : ℕ) (turn : Turn) (what : Act) → ds ++ Turned j turn what ∷ k ≡ h
      → (i : ℕ) → passed_in k ≤ i → i < j → is_due_in i k ≡ false
  pub none_left : next_job_in h ≡ None → (j : ℕ) → is_due_in j h ≡ true → j < passed_in h
