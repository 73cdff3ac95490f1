-- What the parts of a table's calls do to it.
use Rattle.std.specs.Prelude.{◌≡◌, ◌⊎◌, ◌<◌, ◌≤◌, ℕ, Bool, true, false, ◌==◌, [], Some, None, if◌then◌else◌}
use Rattle.std.specs.Vec.{vec_capacity}
use Rattle.hd_calls.specs.declared.vocabulary.Call.{Call}
use Rattle.hd_calls.specs.Numbers.{most_live, most_inputs, most_weight}
use Rattle.hv_value.specs.declared.sorted_set.SortedSet.{SortedSet}
use Rattle.hj_jobs.specs.declared.entry.Entry.{Entry}
use Rattle.hj_jobs.specs.declared.errors.AcceptError.{AcceptError}
use Rattle.hj_jobs.specs.declared.errors.AcceptError.TheVariants as accept
use Rattle.hj_jobs.specs.declared.errors.InputError.{InputError}
use Rattle.hj_jobs.specs.declared.errors.InputError.TheVariants as fed
use Rattle.hj_jobs.specs.declared.jobs.Jobs.{Jobs}
use Rattle.hv_value.specs.SortedSet.{HasPlace, is_in, IsRising}
use Rattle.hj_jobs.specs.Entries.{Begins}
use Rattle.hj_jobs.specs.Live.{Alters, entry_at, Gains, HasRoom, is_due_at, IsFed, live_count, Loses, Retains}
use Rattle.hj_jobs.specs.Ids.{Releases}

-- one more job fits without more memory, whether it is due or not
abbrev pub HasRoomForOne : {H Job : Type 0} → Jobs H Job → Type 0
HasRoomForOne jobs = HasRoom jobs.live × (live_count jobs.live < vec_capacity jobs.due.numbers)

-- so many are live that no more may be, or memory is out
abbrev pub IsFullOr : ℕ → AcceptError → Type 0
IsFullOr count (accept.InUse i) = ⊥
IsFullOr count accept.TooMany = most_live ≤ count
IsFullOr count accept.NoMemory = Unit {0}

-- so many inputs wait that no more may, so much would be kept that no more may, or memory is out
abbrev pub IsFloodOr : ℕ → ℕ → InputError → Type 0
IsFloodOr count weight fed.UnknownId = ⊥
IsFloodOr count weight fed.Flood = (most_inputs ≤ count) ⊎ (most_weight < weight)
IsFloodOr count weight fed.NoMemory = Unit {0}

-- the job is among those that are due, or isn't, and nothing else changed among them
pub record DueIs (old new : SortedSet) (n : ℕ) (is_due : Bool) : Type 0 where
  pub at : IsRising old.numbers.items → (is_due ≡ true → HasPlace old n) → (k : ℕ) → is_in k new.numbers.items ≡ (if k == n then is_due else is_in k old.numbers.items)
  pub rising : IsRising old.numbers.items → IsRising new.numbers.items
  pub capacity : vec_capacity old.numbers ≤ vec_capacity new.numbers

-- nothing changed but how much fits
pub record IsRoomier {H Job : Type 0} (old new : Jobs H Job) : Type 0 where
  pub live : Retains old.live new.live
  pub due : new.due.numbers.items ≡ old.due.numbers.items
  pub capacity : vec_capacity old.due.numbers ≤ vec_capacity new.due.numbers
  pub names : new.names ≡ old.names
  pub accepted : new.accepted ≡ old.accepted
  pub passed : new.passed ≡ old.passed
  pub prepared : new.prepared ≡ old.prepared

-- the job of the call is live and due, and is the latest, if its number is new
pub record Enters {H Job : Type 0} (old new : Jobs H Job) (n : ℕ) (call : Call) (job : Job) : Type 0 where
  pub entry : Entry Job
  pub begins : Begins entry call job
  pub live : entry_at old.live n ≡ None → Gains old.live new.live n entry
  pub due : DueIs old.due new.due n true
  pub names : new.names ≡ old.names
  pub accepted : new.accepted ≡ n
  pub passed : new.passed ≡ old.passed
  pub prepared : new.prepared ≡ old.prepared

-- the job is among those that are due exactly if it is due
pub record Agrees {H Job : Type 0} (old new : Jobs H Job) (n : ℕ) : Type 0 where
  pub live : new.live ≡ old.live
  pub due : DueIs old.due new.due n (is_due_at (entry_at old.live n))
  pub names : new.names ≡ old.names
  pub accepted : new.accepted ≡ old.accepted
  pub passed : new.passed ≡ old.passed
  pub prepared : new.prepared ≡ old.prepared

-- what is kept of the job is changed in this way, and it is due or isn't accordingly
pub record Changes {H Job : Type 0} (old new : Jobs H Job) (n : ℕ) (Changed : Entry Job → Entry Job → Type 0) : Type 0 where
  pub live : Alters old.live new.live n Changed
  pub due : DueIs old.due new.due n (is_due_at (entry_at new.live n))
  pub names : new.names ≡ old.names
  pub accepted : new.accepted ≡ old.accepted
  pub passed : new.passed ≡ old.passed
  pub prepared : new.prepared ≡ old.prepared

-- nothing was fed to the job
pub record FeedsNothing {H Job : Type 0} (old new : Jobs H Job) (n : ℕ) : Type 0 where
  pub live : Alters old.live new.live n (IsFed [])
  pub weight : new.live.weight ≡ old.live.weight
  pub due : new.due ≡ old.due
  pub names : new.names ≡ old.names
  pub accepted : new.accepted ≡ old.accepted
  pub passed : new.passed ≡ old.passed
  pub prepared : new.prepared ≡ old.prepared

abbrev pub KeepsFed : {H Job : Type 0} → Jobs H Job → Jobs H Job → ℕ → Type 0
KeepsFed old new n = (new ≡ old) ⊎ FeedsNothing old new n

-- the job isn't live any more, its ids are free, and it isn't due
pub record Drops {H Job : Type 0} (old new : Jobs H Job) (n : ℕ) : Type 0 where
  pub live : Loses old.live new.live n
  pub due : DueIs old.due new.due n false
  pub names : (e : Entry Job) → entry_at old.live n ≡ Some e → Releases old.names new.names n e.id e.streams
  pub same_names : entry_at old.live n ≡ None → new.names ≡ old.names
  pub accepted : new.accepted ≡ old.accepted
  pub passed : new.passed ≡ old.passed
  pub prepared : new.prepared ≡ old.prepared
