-- Which job has an id, and which job's open stream an id is: two maps from texts that the other side chose.
use Rattle.std.specs.Prelude.{◌≡◌, ℕ, suc, Bool, true, false, ◌&&◌, ◌||◌, ◌==◌, List, [], ◌∷◌, Option, Some, None, if◌then◌else◌}
use Rattle.std.specs.BTreeMap.{get}
use Rattle.std.specs.Cmp.Lexicographic.{slice_cmp}
use Rattle.std.specs.Ordering.{nat_cmp}
use Rattle.hm_message.specs.Same.{same_text}
use Rattle.hd_calls.specs.Rules.{is_among, repeats, same_id}
use Rattle.hj_jobs.specs.declared.errors.AcceptError.{AcceptError}
use Rattle.hj_jobs.specs.declared.errors.AcceptError.TheVariants as error
use Rattle.hj_jobs.specs.declared.ids.Ids.{Ids}
use Rattle.hj_jobs.specs.declared.ids.Stream.{Stream}

-- the number of the job that has the id
abbrev pub job_at : Ids → List ℕ → Option ℕ
job_at names i = get (slice_cmp nat_cmp) names.ids i

-- the open stream of the id
abbrev pub stream_at : Ids → List ℕ → Option Stream
stream_at names i = get (slice_cmp nat_cmp) names.streams i

-- the same ids are had and the same streams are open
pub record AreSame (old new : Ids) : Type 0 where
  pub ids : (i : List ℕ) → job_at new i ≡ job_at old i
  pub streams : (i : List ℕ) → stream_at new i ≡ stream_at old i

-- ---- claimed

-- the stream of this id among those of a job, from place w on
abbrev pub claimed : ℕ → ℕ → List (List ℕ) → List ℕ → Option Stream
claimed job w [] i = None
claimed job w (k ∷ ks) i = if same_text i k then Some (record { job = job; which = w }) else claimed job (suc w) ks i

abbrev pub or_else : {A : Type 0} → Option A → Option A → Option A
or_else None y = y
or_else (Some x) y = Some x

-- none of these streams is open, and none is named twice
pub record AreOpenable (names : Ids) (streams : List (List ℕ)) : Type 0 where
  pub free : (i : List ℕ) → is_among i streams ≡ true → stream_at names i ≡ None
  pub once : repeats streams ≡ false

-- these streams of the job are open now
pub record Opens (old new : Ids) (job : ℕ) (streams : List (List ℕ)) : Type 0 where
  pub ids : (i : List ℕ) → job_at new i ≡ job_at old i
  pub open_streams : (i : List ℕ) → stream_at new i ≡ or_else (claimed job 0 streams i) (stream_at old i)

-- the stream at this place of the job's is open now
pub record OpensOne (old new : Ids) (job place : ℕ) (stream : List ℕ) : Type 0 where
  pub ids : (i : List ℕ) → job_at new i ≡ job_at old i
  pub open_streams : (i : List ℕ) → stream_at new i ≡ (if same_text i stream then Some (record { job = job; which = place }) else stream_at old i)

-- why this stream isn't opened
abbrev pub IsUnopened : Ids → List ℕ → AcceptError → Type 0
IsUnopened names stream (error.InUse i) = (i ≡ stream) × ((s : Stream) × (stream_at names stream ≡ Some s))
IsUnopened names stream error.TooMany = ⊥
IsUnopened names stream error.NoMemory = Unit {0}

-- nobody has the id, none of these streams is open, and none is named twice
pub record AreFree (names : Ids) (id : Option (List ℕ)) (streams : List (List ℕ)) : Type 0 where
  pub id_free : (i : List ℕ) → id ≡ Some i → job_at names i ≡ None
  pub streams_free : (i : List ℕ) → is_among i streams ≡ true → stream_at names i ≡ None
  pub once : repeats streams ≡ false

-- the job has the id now, and these streams are open
pub record Claims (old new : Ids) (job : ℕ) (id : Option (List ℕ)) (streams : List (List ℕ)) : Type 0 where
  pub ids : (i : List ℕ) → job_at new i ≡ (if same_id (Some i) id then Some job else job_at old i)
  pub open_streams : (i : List ℕ) → stream_at new i ≡ or_else (claimed job 0 streams i) (stream_at old i)

-- whether the id stands twice among these
abbrev pub is_twice : List ℕ → List (List ℕ) → Bool
is_twice i [] = false
is_twice i (k ∷ ks) = (same_text i k && is_among i ks) || is_twice i ks

-- why this id can't be claimed: a job has it, it is an open stream, or it is named twice
pub data Clash (names : Ids) (id : Option (List ℕ)) (streams : List (List ℕ)) (i : List ℕ) : Type 0 where
  OfJob : (job : ℕ) → id ≡ Some i → job_at names i ≡ Some job → Clash names id streams i
  OfStream : (stream : Stream) → is_among i streams ≡ true → stream_at names i ≡ Some stream → Clash names id streams i
  Twice : is_twice i streams ≡ true → Clash names id streams i

abbrev pub IsUnclaimed : Ids → Option (List ℕ) → List (List ℕ) → AcceptError → Type 0
IsUnclaimed names id streams (error.InUse i) = Clash names id streams i
IsUnclaimed names id streams error.TooMany = ⊥
IsUnclaimed names id streams error.NoMemory = Unit {0}

-- ---- released

-- whether the stream is one of the job
abbrev pub is_of : ℕ → Option Stream → Bool
is_of job None = false
is_of job (Some s) = job == s.job

-- those of these streams that are the job's aren't open any more
pub record ClosesThose (old new : Ids) (job : ℕ) (streams : List (List ℕ)) : Type 0 where
  pub ids : (i : List ℕ) → job_at new i ≡ job_at old i
  pub closed_streams : (i : List ℕ) → stream_at new i ≡ (if is_among i streams && is_of job (stream_at old i) then None else stream_at old i)

-- nobody has the id, and those of these streams that the job had aren't open
pub record Releases (old new : Ids) (job : ℕ) (id : Option (List ℕ)) (streams : List (List ℕ)) : Type 0 where
  pub ids : (i : List ℕ) → job_at new i ≡ (if same_id (Some i) id then None else job_at old i)
  pub closed_streams : (i : List ℕ) → stream_at new i ≡ (if is_among i streams && is_of job (stream_at old i) then None else stream_at old i)

-- the stream isn't open any more
pub record Closes (old new : Ids) (stream : List ℕ) : Type 0 where
  pub ids : (i : List ℕ) → job_at new i ≡ job_at old i
  pub streams : (i : List ℕ) → stream_at new i ≡ (if same_text i stream then None else stream_at old i)
