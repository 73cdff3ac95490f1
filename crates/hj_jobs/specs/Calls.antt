-- What each call of a table of jobs makes of the happenings that it stands for. OfEach says: for every caller's name and happenings for which
-- the table stood.
use Rattle.std.specs.Prelude.{◌≡◌, ◌⊎◌, ◌<◌, ◌≤◌, ◌+◌, ℕ, suc, Bool, true, false, List, ◌∷◌, length, Option, Some, None, slice_get}
use Rattle.hd_calls.specs.declared.vocabulary.Call as as_given
use Rattle.hd_calls.specs.declared.vocabulary.Input.{Input}
use Rattle.hd_calls.specs.declared.vocabulary.Input.TheVariants as input
use Rattle.hd_calls.specs.declared.vocabulary.Act.{Act}
use Rattle.hd_calls.specs.declared.vocabulary.Act.TheVariants as act
use Rattle.hd_calls.specs.Numbers.{most_live, most_inputs, most_weight}
use Rattle.hd_calls.specs.Weights.{input_weight}
use Rattle.hd_calls.specs.Hubs.{Invoked, Answer, Hub, Turn, Given, Cancelled, id_of, kind_of, call_for, upload_input}
use Rattle.hd_calls.specs.Peers.{last_of}
use Rattle.hd_calls.specs.Rules.{act_at, job_after, is_among, is_deed_answer}
use Rattle.hd_calls.specs.Tables.{JobHappening, Accepted, Came, Marked, Turned, Replied, begun_in, moments_in, turns_in, acts_in, marked_in, reply_in, live_job_in, live_jobs_in, inputs_left_in, kept_weight_in, in_use_in, next_input_in, next_job_in, is_due_in}
use Rattle.hj_jobs.specs.declared.errors.AcceptError.{AcceptError}
use Rattle.hj_jobs.specs.declared.errors.AcceptError.TheVariants as accept
use Rattle.hj_jobs.specs.declared.errors.InputError.{InputError}
use Rattle.hj_jobs.specs.declared.errors.InputError.TheVariants as fed
use Rattle.hj_jobs.specs.declared.jobs.Jobs.{Jobs}
use Rattle.hj_jobs.specs.declared.live.Stepped.{Stepped}
use Rattle.hj_jobs.specs.Ids.{is_twice}
use Rattle.hj_jobs.specs.Stands.{HaveRun, Stands, HasId, StreamIn}

abbrev pub OfEach : {H Job : Type 0} → Hub Job → Jobs H Job → (List ℕ → List JobHappening → Type 0) → Type 0
OfEach hub jobs Holds = (who : List ℕ) (h : List JobHappening) → Stands hub jobs who h → Holds who h

-- it stands for what it stood for
abbrev pub Stays : {H Job : Type 0} → Hub Job → Jobs H Job → Jobs H Job → Type 0
Stays hub old new = OfEach hub old (λ who h. Stands hub new who h)

-- ---- weights

-- the number that a table tells is the weight, or both are more than jobs may keep
pub record Measures (number weight : ℕ) : Type 0 where
  pub least : number ≤ weight
  pub exact : number ≤ most_weight → number ≡ weight

-- ---- a call

-- the call, as the hub is given it, is this one of the other side's
abbrev pub IsCallOf : List ℕ → as_given.Call → Invoked → Type 0
IsCallOf who call c = call ≡ call_for who c

-- the call has begun a job, with this number
pub record Accepts {H Job : Type 0} (hub : Hub Job) (new : Jobs H Job) (who : List ℕ) (h : List JobHappening) (c : Invoked) (now number : ℕ) : Type 0 where
  pub unused : in_use_in c h ≡ false
  pub few : live_jobs_in h < most_live
  pub next : number ≡ suc (length (begun_in h))
  pub stands : Stands hub new who (Accepted c now ∷ h)

-- the id of the call is taken: a live job has it, it is a live job's open stream, or the call names it twice
pub data IsTaken (h : List JobHappening) (c : Invoked) (i : List ℕ) : Type 0 where
  ItsId : (j : ℕ) → id_of c.way ≡ Some i → HasId h i j → IsTaken h c i
  ItsStream : (j w : ℕ) → is_among i c.streams ≡ true → StreamIn h i j w → IsTaken h c i
  NamedTwice : is_twice i c.streams ≡ true → IsTaken h c i

-- it hasn't for this reason, the first that holds
abbrev pub IsRefusedIn : List JobHappening → Invoked → AcceptError → Type 0
IsRefusedIn h c (accept.InUse i) = (in_use_in c h ≡ true) × IsTaken h c i
IsRefusedIn h c accept.TooMany = (in_use_in c h ≡ false) × (most_live ≤ live_jobs_in h)
IsRefusedIn h c accept.NoMemory = Unit {0}

-- ---- what comes on a stream

-- one more input may wait at the job
pub record HasRoomIn (h : List JobHappening) (j : ℕ) (i : Input) : Type 0 where
  pub few : inputs_left_in j h < most_inputs
  pub light : kept_weight_in h + input_weight i ≤ most_weight

-- it may not: too many wait there, or it is too heavy for what jobs may keep
abbrev pub IsTooMuchIn : List JobHappening → ℕ → Input → Type 0
IsTooMuchIn h j i = (most_inputs ≤ inputs_left_in j h) ⊎ (most_weight < kept_weight_in h + input_weight i)

-- the answer came on an open stream of a live job, with room
pub record Feeds {H Job : Type 0} (hub : Hub Job) (new : Jobs H Job) (who : List ℕ) (h : List JobHappening) (i : List ℕ) (a : Answer) (number : ℕ) : Type 0 where
  pub job : ℕ
  pub which : ℕ
  pub is : number ≡ suc job
  pub at : StreamIn h i job which
  pub room : HasRoomIn h job (upload_input (which, a))
  pub stands : Stands hub new who (Came job which a ∷ h)

-- the job of the open stream has no room for the answer
pub record Floods (h : List JobHappening) (i : List ℕ) (a : Answer) : Type 0 where
  pub job : ℕ
  pub which : ℕ
  pub at : StreamIn h i job which
  pub full : IsTooMuchIn h job (upload_input (which, a))

-- the answer wasn't fed, for this reason
abbrev pub IsUnfed : List JobHappening → List ℕ → Answer → InputError → Type 0
IsUnfed h i a fed.UnknownId = (j w : ℕ) → StreamIn h i j w → ⊥
IsUnfed h i a fed.Flood = Floods h i a
IsUnfed h i a fed.NoMemory = Unit {0}

-- ---- answers and marks

-- whether the input answers the act
abbrev pub is_answer : Option Act → Input → Bool
is_answer (Some (act.Ask target arguments)) (input.Asked e) = true
is_answer (Some (act.Do deed)) i = is_deed_answer i
is_answer _ _ = false

-- the live job at the place waits for this answer to its last act
pub record AwaitsAnswer (h : List JobHappening) (j : ℕ) (i : Input) : Type 0 where
  pub live : live_job_in j h ≡ true
  pub asked : is_answer (last_of (acts_in j h)) i ≡ true
  pub unanswered : reply_in j h ≡ None

-- the job of this number waited for this answer, and has it
pub record Answers {H Job : Type 0} (hub : Hub Job) (new : Jobs H Job) (who : List ℕ) (h : List JobHappening) (number : ℕ) (i : Input) : Type 0 where
  pub job : ℕ
  pub is : number ≡ suc job
  pub awaits : AwaitsAnswer h job i
  pub stands : Stands hub new who (Replied job i ∷ h)

-- no live job has this number
abbrev pub IsDead : List JobHappening → ℕ → Type 0
IsDead h number = (j : ℕ) → number ≡ suc j → live_job_in j h ≡ false

-- of the place of each number
abbrev pub AtPlace : ℕ → (ℕ → Type 0) → Type 0
AtPlace number Holds = (j : ℕ) → number ≡ suc j → Holds j

-- the live job of the id, which wasn't marked, is marked
pub record Marks {H Job : Type 0} (hub : Hub Job) (new : Jobs H Job) (who : List ℕ) (h : List JobHappening) (i : List ℕ) (number : ℕ) : Type 0 where
  pub job : ℕ
  pub is : number ≡ suc job
  pub has_id : HasId h i job
  pub unmarked : marked_in job h ≡ false
  pub stands : Stands hub new who (Marked job ∷ h)

-- no live job that isn't marked has the id
abbrev pub IsUnmarkable : List JobHappening → List ℕ → Type 0
IsUnmarkable h i = (j : ℕ) → HasId h i j → marked_in j h ≡ false → ⊥

-- ---- turns

-- the turn that the job at the place has to have at a moment
abbrev pub IsTurnIn : List JobHappening → ℕ → ℕ → Turn → Type 0
IsTurnIn h j now Cancelled = (live_job_in j h ≡ true) × (marked_in j h ≡ true)
IsTurnIn h j now (Given i m) = (live_job_in j h ≡ true) × (marked_in j h ≡ false) × (next_input_in j h (last_of (acts_in j h)) ≡ Some i) × (m ≡ now)

-- the turn that the next job of the round has, at which it does what its hub means
pub record IsStepOf {Job : Type 0} (hub : Hub Job) (who : List ℕ) (h : List JobHappening) (now : ℕ) (s : Stepped) (job : ℕ) (turn : Turn) : Type 0 where
  pub call : Invoked
  pub since : ℕ
  pub is : s.job ≡ suc job
  pub next : next_job_in h ≡ Some job
  pub at : slice_get (begun_in h) job ≡ Some call
  pub began : slice_get (moments_in h) job ≡ Some since
  pub id : s.id ≡ id_of call.way
  pub kind : s.kind ≡ kind_of call.way
  pub due : IsTurnIn h job now turn
  pub does : s.act ≡ act_at hub (job_after hub (hub.begin_of (call_for who call) since) (turns_in job h)) turn

-- the next job of the round had its turn
pub record Steps {H Job : Type 0} (hub : Hub Job) (new : Jobs H Job) (who : List ℕ) (h : List JobHappening) (now : ℕ) (s : Stepped) : Type 0 where
  pub job : ℕ
  pub turn : Turn
  pub step : IsStepOf hub who h now s job turn
  pub stands : Stands hub new who (Turned job turn s.act ∷ h)

-- it had the first half of it: the table stands for what it stood for, but the jobs' states are those after the turn
pub record HasPrepared {H Job : Type 0} (hub : Hub Job) (new : Jobs H Job) (who : List ℕ) (h : List JobHappening) (now : ℕ) (s : Stepped) : Type 0 where
  pub job : ℕ
  pub turn : Turn
  pub step : IsStepOf hub who h now s job turn
  pub stands : Stands hub new who h
  pub prepared : new.prepared ≡ true
  pub ahead : HaveRun hub who new.live (Turned job turn s.act ∷ h)

-- what an attempt gave: the first half of a turn, where there is room, or none, where there is no room or no job is left in the round
abbrev pub PreparesOrNot : {H Job : Type 0} → Hub Job → Jobs H Job → List ℕ → List JobHappening → ℕ → Bool → Option Stepped → Type 0
PreparesOrNot hub new who h now room None = ((room ≡ false) ⊎ (next_job_in h ≡ None)) × Stands hub new who h
PreparesOrNot hub new who h now room (Some s) = (room ≡ true) × HasPrepared hub new who h now s

-- what a step gave: a turn, where there is room, or none, where there is no room or no job is left in the round
abbrev pub StepsOrNot : {H Job : Type 0} → Hub Job → Jobs H Job → List ℕ → List JobHappening → ℕ → Bool → Option Stepped → Type 0
StepsOrNot hub new who h now room None = ((room ≡ false) ⊎ (next_job_in h ≡ None)) × Stands hub new who h
StepsOrNot hub new who h now room (Some s) = (room ≡ true) × Steps hub new who h now s

-- some job is due
abbrev pub SomeIsDue : List JobHappening → Type 0
SomeIsDue h = (j : ℕ) × (is_due_in j h ≡ true)
