-- What a table of jobs remembers of what happened to them. In lists jobs are numbered from 0, so the job at place j has the number suc j.
use Rattle.std.specs.Prelude.{◌≡◌, ◌≤◌, ℕ, suc, ◌-◌, Bool, true, false, List, [], length, drop, map, Option, Some, None, slice_get, if◌then◌else◌}
use Rattle.std.specs.Vec.{vec_capacity}
use Rattle.hd_calls.specs.declared.vocabulary.Act.{Act}
use Rattle.hd_calls.specs.declared.vocabulary.Input.{Input}
use Rattle.hd_calls.specs.Numbers.{most_live, most_inputs}
use Rattle.hd_calls.specs.Hubs.{Invoked, Answer, Turn, Hub, id_of, kind_of, call_for, upload_input}
use Rattle.hd_calls.specs.Peers.{has_end, of_stream, last_of}
use Rattle.hd_calls.specs.Rules.{job_after, sum_below, used}
use Rattle.hd_calls.specs.Tables.{JobHappening, begun_in, moments_in, turns_in, acts_in, inputs_in, marked_in, reply_in, over_in, passed_in, live_job_in, live_jobs_in, is_due_in}
use Rattle.hv_value.specs.declared.sorted_set.SortedSet.{SortedSet}
use Rattle.hj_jobs.specs.declared.entry.Entry.{Entry}
use Rattle.hj_jobs.specs.declared.jobs.Jobs.{Jobs}
use Rattle.hj_jobs.specs.declared.live.Live.{Live}
use Rattle.hj_jobs.specs.declared.ids.Ids.{Ids}
use Rattle.hj_jobs.specs.declared.ids.Stream.{Stream}
use Rattle.hj_jobs.specs.Counted.{job_count}
use Rattle.hj_jobs.specs.Ids.{job_at, stream_at}
use Rattle.hv_value.specs.SortedSet.{is_in, IsRising}
use Rattle.hj_jobs.specs.Entries.{awaited, AnswersOrNot}
use Rattle.hj_jobs.specs.Live.{entry_at, live_count}

-- ---- one job

-- what the happenings say of one job
pub record Past : Type 0 where
  pub call : Option Invoked
  pub since : Option ℕ
  pub live : Bool
  pub over : Bool
  pub turns : List Turn
  pub acts : List Act
  pub inputs : List (ℕ × Answer)
  pub is_cancelled : Bool
  pub reply : Option Input

-- of the job at this place
abbrev pub past : ℕ → List JobHappening → Past
past j h = record {
  call = slice_get (begun_in h) j;
  since = slice_get (moments_in h) j;
  live = live_job_in j h;
  over = over_in j h;
  turns = turns_in j h;
  acts = acts_in j h;
  inputs = inputs_in j h;
  is_cancelled = marked_in j h;
  reply = reply_in j h;
}

-- what is kept of it counts
abbrev pub count_of : Past → ℕ
count_of p = if p.live then job_count p.call (drop (used p.turns) (map upload_input p.inputs)) p.reply else 0

-- what is kept of all jobs counts
abbrev pub count_in : List JobHappening → ℕ
count_in h = sum_below (length (begun_in h)) (λ j. count_of (past j h))

-- a live job of this id
pub record HadBy (p : Past) (i : List ℕ) : Type 0 where
  pub call : Invoked
  pub at : p.call ≡ Some call
  pub id : id_of call.way ≡ Some i
  pub live : p.live ≡ true

-- a live job whose stream at place w has this id, and is open
pub record OpenBy (p : Past) (i : List ℕ) (w : ℕ) : Type 0 where
  pub call : Invoked
  pub at : p.call ≡ Some call
  pub stream : slice_get call.streams w ≡ Some i
  pub live : p.live ≡ true
  pub unended : has_end (of_stream w p.inputs) ≡ false

-- the live job at place j has the id
abbrev pub HasId : List JobHappening → List ℕ → ℕ → Type 0
HasId h i j = HadBy (past j h) i

-- the id is that of an open stream, at place w of the live job at place j
abbrev pub StreamIn : List JobHappening → List ℕ → ℕ → ℕ → Type 0
StreamIn h i j w = OpenBy (past j h) i w

-- whether the job's state is what its turns made of it
abbrev pub HasRun : {Job : Type 0} → Hub Job → List ℕ → Job → Past → Type 0
HasRun hub who job p = (call : Invoked) (since : ℕ) → p.call ≡ Some call → p.since ≡ Some since → job ≡ job_after hub (hub.begin_of (call_for who call) since) p.turns

-- what is kept of a live job. While a turn is halfway, some job's state is ahead of the happenings
pub record Remembers {Job : Type 0} (prepared : Bool) (hub : Hub Job) (who : List ℕ) (e : Entry Job) (p : Past) : Type 0 where
  pub call : Invoked
  pub since : ℕ
  pub live : p.live ≡ true
  pub at : p.call ≡ Some call
  pub began : p.since ≡ Some since
  pub id : e.id ≡ id_of call.way
  pub kind : e.kind ≡ kind_of call.way
  pub streams : e.streams ≡ call.streams
  pub job : prepared ≡ false → e.job ≡ job_after hub (hub.begin_of (call_for who call) since) p.turns
  pub awaits : e.awaits ≡ awaited (last_of p.acts)
  pub inputs : e.inputs.items ≡ drop (used p.turns) (map upload_input p.inputs)
  pub given : used p.turns ≤ length p.inputs
  pub few_inputs : length p.inputs - used p.turns ≤ most_inputs
  pub reply : e.reply ≡ p.reply
  pub answered : AnswersOrNot e.awaits e.reply
  pub is_cancelled : e.is_cancelled ≡ p.is_cancelled
  pub weight : e.weight ≡ job_count p.call (drop (used p.turns) (map upload_input p.inputs)) p.reply

-- the entry of a place: there is one exactly if its job is live
abbrev pub IsEntryOf : {Job : Type 0} → Bool → Hub Job → List ℕ → Option (Entry Job) → Past → Type 0
IsEntryOf prepared hub who None p = p.live ≡ false
IsEntryOf prepared hub who (Some e) p = Remembers prepared hub who e p

-- nothing has happened to a job that isn't there yet
pub record IsUnborn (p : Past) : Type 0 where
  pub over : p.over ≡ false
  pub turns : p.turns ≡ []
  pub acts : p.acts ≡ []
  pub inputs : p.inputs ≡ []
  pub is_cancelled : p.is_cancelled ≡ false
  pub reply : p.reply ≡ None

-- ---- the table

-- who has which id
pub record IdsAgree (names : Ids) (h : List JobHappening) : Type 0 where
  pub had : (i : List ℕ) (n : ℕ) → job_at names i ≡ Some n → (j : ℕ) × (n ≡ suc j) × HasId h i j
  pub every : (i : List ℕ) (j : ℕ) → HasId h i j → job_at names i ≡ Some (suc j)

-- whose the open streams are
pub record StreamsAgree (names : Ids) (h : List JobHappening) : Type 0 where
  pub had : (i : List ℕ) (s : Stream) → stream_at names i ≡ Some s → (j : ℕ) × (s.job ≡ suc j) × StreamIn h i j s.which
  pub every : (i : List ℕ) (j w : ℕ) → StreamIn h i j w → stream_at names i ≡ Some (record { job = suc j; which = w })

-- which jobs are due
pub record DueAgree (due : SortedSet) (h : List JobHappening) : Type 0 where
  pub rising : IsRising due.numbers.items
  pub same : (j : ℕ) → is_in (suc j) due.numbers.items ≡ is_due_in j h
  pub from_one : is_in 0 due.numbers.items ≡ false

-- The table, whose jobs are this hub's and whose calls come from this side, stands for these happenings, the latest first.
pub record Stands {H Job : Type 0} (hub : Hub Job) (jobs : Jobs H Job) (who : List ℕ) (h : List JobHappening) : Type 0 where
  pub accepted : jobs.accepted ≡ length (begun_in h)
  pub moments : length (moments_in h) ≡ length (begun_in h)
  pub entries : (j : ℕ) → IsEntryOf jobs.prepared hub who (entry_at jobs.live (suc j)) (past j h)
  pub none : entry_at jobs.live 0 ≡ None
  pub count : live_count jobs.live ≡ live_jobs_in h
  pub few_live : live_jobs_in h ≤ most_live
  pub weight : jobs.live.weight ≡ count_in h
  pub ids : IdsAgree jobs.names h
  pub streams : StreamsAgree jobs.names h
  pub due : DueAgree jobs.due h
  pub room : live_count jobs.live ≤ vec_capacity jobs.due.numbers
  pub passed : jobs.passed ≡ passed_in h
  pub unborn : (j : ℕ) → length (begun_in h) ≤ j → IsUnborn (past j h)

-- the state of each live job is what the happenings say
abbrev pub HaveRun : {Job : Type 0} → Hub Job → List ℕ → Live Job → List JobHappening → Type 0
HaveRun {Job} hub who live h = (j : ℕ) (e : Entry Job) → entry_at live (suc j) ≡ Some e → HasRun hub who e.job (past j h)
