-- What a refusal of sqlite is to a keeper: for want of memory, or a fault.
use Rattle.std.specs.Prelude.{◌≡◌, ◌≢◌, ◌⊎◌, ℕ, List, [], Result, Ok, Err, MatchResult}
use Rattle.hd_facts.specs.Counts.{one_more}
use Rattle.sqlite_trees.specs.declared.store.Store.{Ghosts}
use Rattle.sqlite.specs.declared.error.ErrorCode.TheVariants.{OutOfMemory}
use Rattle.sqlite.specs.declared.error.Error.{Error}
use Rattle.sqlite.specs.declared.error.Error.TheVariants.{SqliteFailure}
use Rattle.sqlite.specs.Held.{Held, state}
use Rattle.sqlite.specs.State.{HasCleanDisk, Executes}
use Rattle.hk_keeper.specs.declared.keeper.KeepError.{KeepError}
use Rattle.hk_keeper.specs.declared.keeper.KeepError.TheVariants.{Failed, NoMemory}
use Rattle.hk_sqlite.specs.declared.opening.SqlOpenError.{SqlOpenError}
use Rattle.hk_sqlite.specs.declared.opening.SqlOpenError.TheVariants.{Store as StoreFailed, NoMemory as MemoryOut}
use Rattle.hk_sqlite.specs.Schema.{users_text, posts_text}

-- a call fails with `NoMemory` for want of memory, and with `Failed` at any other refusal
abbrev pub IsWhy : Error → KeepError → Type 0
IsWhy e NoMemory = e ≡ SqliteFailure OutOfMemory
IsWhy e Failed = e ≢ SqliteFailure OutOfMemory

-- the count of faults after a call that failed
abbrev pub faults_at : KeepError → ℕ → ℕ
faults_at Failed faults = one_more faults
faults_at NoMemory faults = faults

-- the count rises at `Failed`, and at nothing else
abbrev pub CountsFaults : {T : Type 0} → ℕ → ℕ → Result T KeepError → Type 0
CountsFaults before now result = MatchResult result (λ answer. now ≡ before) (λ why. now ≡ faults_at why before)

-- ---- opening

abbrev pub open_why : KeepError → SqlOpenError
open_why Failed = StoreFailed
open_why NoMemory = MemoryOut

module _ {S : Type 0} (g : Ghosts S) where
  -- the statement has no parameter, and ends so, if the disk returns what was written
  abbrev pub Ends : List ℕ → Held S → Held S → Result ℕ Error → Type 0
  Ends sql old new result = HasCleanDisk (state g new) → Executes sql [] (state g old) (state g new) result

  -- the statement that makes the one table is refused, or that which makes the other
  abbrev pub RefusesTables : Held S → Held S → Error → Type 0
  RefusesTables old new e = Ends users_text old new (Err e) ⊎ ((between : Held S) × (count : ℕ) × Ends users_text old between (Ok count) × Ends posts_text between new (Err e))

  -- one of them was refused, other than for want of memory
  abbrev pub IsRefused : Held S → Type 0
  IsRefused old = (new : Held S) × (e : Error) × RefusesTables old new e × IsWhy e Failed
