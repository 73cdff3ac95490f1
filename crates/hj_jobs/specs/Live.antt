-- The live jobs: what is kept of each, by number.
use Rattle.std.specs.Prelude.{◌≡◌, ◌<◌, ◌+◌, ℕ, Bool, true, false, not, ◌==◌, nat_eq, List, ◌++◌, length, Option, Some, None}
use Rattle.indexmap.specs.IndexMap.{get, index_map_len, spare}
use Rattle.hd_calls.specs.declared.vocabulary.Input.{Input}
use Rattle.hd_calls.specs.Hubs.{Hub}
use Rattle.hd_calls.specs.Weights.{input_weight}
use Rattle.hj_jobs.specs.Counted.{Adds, counted, inputs_count, Swaps, Takes}
use Rattle.hj_jobs.specs.declared.entry.Entry.{Entry}
use Rattle.hj_jobs.specs.declared.live.Live.{Live}
use Rattle.hj_jobs.specs.declared.live.Stepped.{Stepped}
use Rattle.hj_jobs.specs.Entries.{is_due_entry, is_open_for, PreparesOrNot}

abbrev pub entry_at : {J : Type 0} → Live J → ℕ → Option (Entry J)
entry_at live n = get nat_eq live.entries n

abbrev pub live_count : {J : Type 0} → Live J → ℕ
live_count live = index_map_len live.entries

-- one more job fits without more memory
abbrev pub HasRoom : {J : Type 0} → Live J → Type 0
HasRoom live = 0 < spare live.entries

-- whether it has a turn to come
abbrev pub is_due_at : {J : Type 0} → Option (Entry J) → Bool
is_due_at None = false
is_due_at (Some e) = is_due_entry e

-- how many inputs wait there
abbrev pub waits_at : {J : Type 0} → Option (Entry J) → ℕ
waits_at None = 0
waits_at (Some e) = length e.inputs.items

-- whether the input is awaited there
abbrev pub awaits_at : {J : Type 0} → Option (Entry J) → Input → Bool
awaits_at None i = false
awaits_at (Some e) i = is_open_for e i

-- whether it may be marked
abbrev pub is_unmarked_at : {J : Type 0} → Option (Entry J) → Bool
is_unmarked_at None = false
is_unmarked_at (Some e) = not e.is_cancelled

-- the same is kept of each
pub record Retains {J : Type 0} (old new : Live J) : Type 0 where
  pub at : (n : ℕ) → entry_at new n ≡ entry_at old n
  pub count : live_count new ≡ live_count old
  pub weight : new.weight ≡ old.weight

-- one more is live
pub record Gains {J : Type 0} (old new : Live J) (n : ℕ) (e : Entry J) : Type 0 where
  pub here : entry_at new n ≡ Some e
  pub others : (k : ℕ) → (n == k) ≡ false → entry_at new k ≡ entry_at old k
  pub count : live_count new ≡ live_count old + 1
  pub weight : Adds old.weight new.weight e.weight

-- the sum without what an entry counts, if there was one
abbrev pub LosesWeight : {J : Type 0} → ℕ → ℕ → Option (Entry J) → Type 0
LosesWeight old new None = new ≡ old
LosesWeight old new (Some e) = Takes old new e.weight

-- one isn't live any more, if it was
pub record Loses {J : Type 0} (old new : Live J) (n : ℕ) : Type 0 where
  pub here : entry_at new n ≡ None
  pub others : (k : ℕ) → (n == k) ≡ false → entry_at new k ≡ entry_at old k
  pub count : (e : Entry J) → entry_at old n ≡ Some e → live_count new + 1 ≡ live_count old
  pub none : entry_at old n ≡ None → live_count new ≡ live_count old
  pub weight : LosesWeight old.weight new.weight (entry_at old n)

-- an entry is changed in this way, if there is one
abbrev pub AltersEntry : {J : Type 0} → Option (Entry J) → Option (Entry J) → (Entry J → Entry J → Type 0) → Type 0
AltersEntry None new Changed = new ≡ None
AltersEntry (Some e) None Changed = ⊥
AltersEntry (Some e) (Some f) Changed = Changed e f

-- the sum with what it counts now
abbrev pub AltersWeight : {J : Type 0} → ℕ → ℕ → Option (Entry J) → Option (Entry J) → Type 0
AltersWeight old new None f = new ≡ old
AltersWeight old new (Some e) None = ⊥
AltersWeight old new (Some e) (Some f) = Swaps old new e.weight f.weight

-- that of the number is changed in this way, if there is one, and no other
pub record Alters {J : Type 0} (old new : Live J) (n : ℕ) (Changed : Entry J → Entry J → Type 0) : Type 0 where
  pub here : AltersEntry (entry_at old n) (entry_at new n) Changed
  pub others : (k : ℕ) → (n == k) ≡ false → entry_at new k ≡ entry_at old k
  pub count : live_count new ≡ live_count old
  pub weight : AltersWeight old.weight new.weight (entry_at old n) (entry_at new n)

abbrev pub IsMarked : {J : Type 0} → Entry J → Entry J → Type 0
IsMarked e f = f ≡ record e { is_cancelled = true }

abbrev pub IsAnswered : {J : Type 0} → Input → Entry J → Entry J → Type 0
IsAnswered i e f = (f ≡ record e { reply = Some i; weight = f.weight }) × Adds e.weight f.weight (counted (input_weight i))

-- these inputs came, and nothing else changed
pub record IsFed {J : Type 0} (is : List Input) (e f : Entry J) : Type 0 where
  pub inputs : f.inputs.items ≡ e.inputs.items ++ is
  pub id : f.id ≡ e.id
  pub kind : f.kind ≡ e.kind
  pub streams : f.streams ≡ e.streams
  pub job : f.job ≡ e.job
  pub awaits : f.awaits ≡ e.awaits
  pub reply : f.reply ≡ e.reply
  pub is_cancelled : f.is_cancelled ≡ e.is_cancelled
  pub weight : Adds e.weight f.weight (inputs_count is)

-- the hub's part of the job's turn: of what is kept only the job itself changed. The act of a cancelled one is its end
pub record HasPrepared {J : Type 0} (hub : Hub J) (now : ℕ) (s : Stepped) (e f : Entry J) : Type 0 where
  pub id : s.id ≡ e.id
  pub kind : s.kind ≡ e.kind
  pub attempts : PreparesOrNot hub e f now (Some s.act)

-- so it is of the number, if it had a turn to come
abbrev pub PreparesAt : {J : Type 0} → Hub J → Live J → Live J → ℕ → ℕ → Option Stepped → Type 0
PreparesAt hub old new n now None = (is_due_at (entry_at old n) ≡ false) × Retains old new
PreparesAt hub old new n now (Some s) = (s.job ≡ n) × (is_due_at (entry_at old n) ≡ true) × Alters old new n (HasPrepared hub now s) × (new.weight ≡ old.weight)
