-- What the command `serve` does with what is outside: its output, its door, its keeper and its lots.
use Rattle.std.specs.Prelude.{◌≡◌, ◌⊎◌, ◌≤◌, ℕ, Bool, List, [], ◌∷◌, ◌++◌, length, take, codes, option_map, Option, Some, None, IfSome, Result, Ok, Err}
use Rattle.std.specs.Fmt.{decimal}
use Rattle.std.specs.Io.KnownBytes.{Appends}
use Rattle.hd_facts.specs.Counts.{Rose, one_more}
use Rattle.hd_rooms.specs.declared.vocabulary.Asked.{Asked}
use Rattle.hd_rooms.specs.declared.vocabulary.Asked.TheVariants as ask
use Rattle.hd_rooms.specs.Kept.{row_count}
use Rattle.hk_keeper.specs.declared.keeper.KeepError.{KeepError}
use Rattle.hk_keeper.specs.declared.keeper.KeepError.TheVariants as keep
use Rattle.hw_door.specs.DoorCalls.{DoorCall, flushed, heard_in}
use Rattle.hd_server.specs.Doings.{ServerEvent, moment}
use Rattle.hd_server.specs.Plans.{Setup}
use Rattle.hd_server.specs.Serving.{ComeInTurns, ServeEnd, ServesOn, failed_call}
use Rattle.hub_demo.specs.Serving.{serve_hub}
use Rattle.hub_server.specs.declared.serving.ServeFault.{ServeFault}
use Rattle.hub_server.specs.declared.serving.ServeFault.TheVariants as fault
use Rattle.hub_server.specs.Resend.{ResendLimits}
use Rattle.hub_server.specs.Servers.{IsSetup}
use Rattle.hub_server.specs.Serving.{AreTurns, fault_of}
use Rattle.hub_server.specs.Steps.{Outside, OutsideFollows}
use Rattle.sr_serve.specs.declared.serving.ServeError.{ServeError}
use Rattle.sr_serve.specs.declared.serving.ServeError.TheVariants as end
use Rattle.sr_serve.specs.Sides.{AreSides}

-- the one line that is written
abbrev pub serving_line : ℕ → List ℕ
serving_line rows = codes "serving " ++ decimal rows ++ codes "\n"

-- ---- what is outside

-- what the output, the door, the keeper and the lots tell of themselves
pub record Environment : Type 0 where
  pub holds : Option (List ℕ)
  pub sink_faults : ℕ
  pub heard_at : ℕ
  pub door_faults : ℕ
  pub kept : Outside

abbrev pub environment : Option (List ℕ) → ℕ → ℕ → ℕ → Outside → Environment
environment holds sink_faults heard_at door_faults kept =
    record { holds = holds; sink_faults = sink_faults; heard_at = heard_at; door_faults = door_faults; kept = kept }

-- the keeper was asked how many rows there are, and answered this
abbrev pub counted : ℕ → Outside → Outside
counted rows a = record a { answers = option_map (λ (asks : List Asked). asks ++ ask.Rows (Some rows) ∷ []) a.answers }

-- ---- what is served

-- all was answered: the keeper and the lots went on as this history tells, each connection is a side that delivers
pub record IsServed (at since : Outside) (last : ℕ) (h : List ServerEvent) : Type 0 where
  pub went : OutsideFollows at since [] h
  pub timely : moment h ≤ last
  pub sides : AreSides serve_hub h

-- memory ran out in the middle of an event: so it was at some moment before, and what was asked and drawn since isn't told
pub record IsCut (at : Outside) (last : ℕ) (h : List ServerEvent) : Type 0 where
  pub until : Outside
  pub served : IsServed at until last h

-- The line of the rows was written. The door was called so, in this order, and then flushed: a server of this base, whose ends hold so much, heard
-- and gave this, and saw what was answered to the messages among it: all of its turns, or as many as there were until this fault. A call of the door
-- that failed was the last before the flush
pub record Serves (base : List ℕ) (resend : ResendLimits) (live turns : ℕ) (Goes : List DoorCall → Type 0) (why : Option ServeFault) (before now : Environment) : Type 0 where
  pub rows : ℕ
  pub are_rows : IfSome before.kept.holds (λ content. rows ≡ row_count content.rows)
  pub line : Appends before.holds now.holds (serving_line rows)
  pub ending : ServeEnd
  pub why_is : why ≡ fault_of ending
  pub calls : List DoorCall
  pub goes : Goes ((calls ++ failed_call ending) ++ flushed ∷ [])
  pub turn_by_turn : ComeInTurns ending calls
  pub count : AreTurns ending turns (length (heard_in calls))
  pub serves : (s : Setup) → IsSetup s base resend live → ServesOn serve_hub s ending
      (IsServed (counted rows before.kept) now.kept now.heard_at) (IsCut (counted rows before.kept) now.heard_at) [] (heard_in calls) calls

-- a first part of the line of the rows was written, and the door was not called
pub record BreaksOff (Goes : List DoorCall → Type 0) (before now : Environment) : Type 0 where
  pub rows : ℕ
  pub are_rows : IfSome before.kept.holds (λ content. rows ≡ row_count content.rows)
  pub n : ℕ
  pub part : Appends before.holds now.holds (take n (serving_line rows))
  pub uncalled : Goes []
  pub kept : now.kept ≡ counted rows before.kept

-- nothing was written, and the door was not called
pub record IsUntouched (Goes : List DoorCall → Type 0) (before now : Environment) : Type 0 where
  pub holds : now.holds ≡ before.holds
  pub uncalled : Goes []
  pub heard_at : now.heard_at ≡ before.heard_at

-- the keeper wasn't asked, or it was asked for its rows and told how many there are
abbrev pub IsAskedAtMost : Outside → Outside → Type 0
IsAskedAtMost before now =
    (now ≡ before) ⊎ ((rows : ℕ) × IfSome before.holds (λ content. rows ≡ row_count content.rows) × (now ≡ counted rows before))

-- the keeper was asked for its rows and failed, and nothing else was asked or drawn
pub record HasFailed (before now : Outside) : Type 0 where
  pub holds : now.holds ≡ before.holds
  pub answers : now.answers ≡ option_map (λ (asks : List Asked). asks ++ ask.Rows None ∷ []) before.answers
  pub rose : Rose before.faults now.faults
  pub drawn : now.drawn ≡ before.drawn
  pub failures : now.failures ≡ before.failures

-- no fault of the output, or of the door
abbrev pub IsWhole : Environment → Environment → Type 0
IsWhole before now = now.sink_faults ≡ before.sink_faults

abbrev pub IsHeard : Environment → Environment → Type 0
IsHeard before now = now.door_faults ≡ before.door_faults

-- by how it ended. The output's and the door's counts of faults rise only in the call that the answer tells of, the output's by one
abbrev pub Ends : List ℕ → ResendLimits → ℕ → ℕ → (List DoorCall → Type 0) → Environment → Environment → Result Unit ServeError → Type 0
Ends base resend live turns Goes before now (Ok done) = Serves base resend live turns Goes None before now × IsWhole before now × IsHeard before now
Ends base resend live turns Goes before now (Err end.Door) = Serves base resend live turns Goes (Some fault.Door) before now × IsWhole before now × Rose before.door_faults now.door_faults
Ends base resend live turns Goes before now (Err end.Keeper) =
    IsUntouched Goes before now × IsWhole before now × IsHeard before now × HasFailed before.kept now.kept
Ends base resend live turns Goes before now (Err end.Write) = BreaksOff Goes before now × IsHeard before now × (now.sink_faults ≡ one_more before.sink_faults)
Ends base resend live turns Goes before now (Err end.NoMemory) =
    ((IsUntouched Goes before now × IsAskedAtMost before.kept now.kept) ⊎ Serves base resend live turns Goes (Some fault.NoMemory) before now)
    × IsWhole before now × IsHeard before now

-- ---- faults below

abbrev pub error_of_keeper : KeepError → ServeError
error_of_keeper keep.Failed = end.Keeper
error_of_keeper keep.NoMemory = end.NoMemory

abbrev pub error_of_server : ServeFault → ServeError
error_of_server fault.Door = end.Door
error_of_server fault.NoMemory = end.NoMemory
