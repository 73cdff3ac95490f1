-- A server that hears through a door: what it gave the door for all that it heard.
use Rattle.std.specs.Prelude.{◌≡◌, ◌≤◌, ◌<◌, ℕ, true, List, [], ◌∷◌, ◌++◌, length, map, Option, Some, None, Result, Ok, Err}
use Rattle.hd_facts.specs.Counts.{Rose}
use Rattle.hd_facts.specs.Prefixes.{IsPrefix}
use Rattle.hd_calls.specs.Hubs.{Hub}
use Rattle.hw_door.specs.declared.error.DoorError.{DoorError}
use Rattle.hw_door.specs.declared.error.DoorError.TheVariants as door
use Rattle.hw_door.specs.declared.heard.Given.{Given}
use Rattle.hw_door.specs.DoorCalls.{DoorCall, to_hear, to_say, full_in, given_in, heard_in}
use Rattle.hd_server.specs.declared.vocabulary.Said.{Said}
use Rattle.hd_server.specs.Doings.{ServerEvent, moment}
use Rattle.hd_server.specs.Plans.{Setup}
use Rattle.hd_server.specs.Serves.{given_as, lanes_sent, seeing}
use Rattle.hd_server.specs.Serving.{AreGiving, ComeInTurns, ServeEnd, ServesOn, all_answered, at_door, in_step, failed_call}
use Rattle.hub_server.specs.declared.server.Server.{Server}
use Rattle.hub_server.specs.declared.serving.ServeFault.{ServeFault}
use Rattle.hub_server.specs.declared.serving.ServeFault.TheVariants as fault
use Rattle.hub_server.specs.Servers.{AreSpeakers}
use Rattle.hub_server.specs.Steps.{Outside, StandsServer, OutsideFollows}

-- ---- faults

abbrev pub cause_of : DoorError → ServeFault
cause_of door.Failed = fault.Door
cause_of door.NoMemory = fault.NoMemory

-- why serving ended so before its turns were done
abbrev pub fault_of : ServeEnd → Option ServeFault
fault_of all_answered = None
fault_of (at_door ask why) = Some (cause_of why)
fault_of in_step = Some fault.NoMemory

-- the door failed only if its count of faults rose. Else that is as it was
abbrev pub IsCausedBy : {T : Type 0} → ℕ → ℕ → Result T ServeFault → Type 0
IsCausedBy before now (Ok answer) = now ≡ before
IsCausedBy before now (Err fault.Door) = (before ≤ now) × Rose before now
IsCausedBy before now (Err fault.NoMemory) = now ≡ before

-- ---- what a door is given

-- all of these words are given; or the door failed at the word after these
abbrev pub IsGiven : ServeEnd → List Given → List Given → Type 0
IsGiven all_answered given whole = given ≡ whole
IsGiven (at_door (to_say next) why) given whole = IsPrefix (given ++ next ∷ []) whole
IsGiven _ given whole = ⊥

-- so the door was called, and the server has seen what that answered to each message
pub record GivesAll {H Job : Type 0} (hub : Hub Job) (old new : Server H Job) (Goes : List DoorCall → Type 0) (words : List Said) (end : ServeEnd) : Type 0 where
  pub calls : List DoorCall
  pub goes : Goes (calls ++ failed_call end)
  pub giving : AreGiving calls
  pub all : IsGiven end (given_in calls) (map given_as words)
  pub each : length (full_in calls) ≡ length (lanes_sent (given_in calls))
  pub sees : (s : Setup) (h : List ServerEvent) → StandsServer hub s old h
      → StandsServer hub s new (seeing (lanes_sent (given_in calls)) (full_in calls) h)

-- so it is by the answer of the call that gives them
abbrev pub GivesBy : {H Job : Type 0} → Hub Job → Server H Job → Server H Job → (List DoorCall → Type 0) → List Said → Result Unit DoorError → Type 0
GivesBy hub old new Goes words (Ok done) = GivesAll hub old new Goes words all_answered
GivesBy hub old new Goes words (Err why) = (next : Given) × GivesAll hub old new Goes words (at_door (to_say next) why)

-- ---- a whole run

-- at its end the server stands for this, and what is around it went on so
pub record AtEnd {H Job : Type 0} (hub : Hub Job) (s : Setup) (new : Server H Job) (at since : Outside) (last : ℕ) (h after : List ServerEvent) : Type 0 where
  pub stands : StandsServer hub s new after
  pub went : OutsideFollows at since h after
  pub timely : moment after ≤ last

-- memory ran out in the middle of an event, before which what is around it had gone on so
pub record HasEnded {H Job : Type 0} (s : Setup) (new : Server H Job) (at : Outside) (last : ℕ) (h after : List ServerEvent) : Type 0 where
  pub ended : new.is_ended ≡ true
  pub until : Outside
  pub went : OutsideFollows at until h after
  pub timely : moment after ≤ last
  pub speakers : AreSpeakers s after

-- how many events were heard: as many as turns, or at most so many if it ended before, and one at least if it ended at an event
abbrev pub AreTurns : ServeEnd → ℕ → ℕ → Type 0
AreTurns all_answered turns n = n ≡ turns
AreTurns (at_door (to_hear wait) why) turns n = n < turns
AreTurns (at_door (to_say next) why) turns n = (1 ≤ n) × (n ≤ turns)
AreTurns in_step turns n = (1 ≤ n) × (n ≤ turns)

-- The door was called so, in this order, until all turns were done, or a fault came: a call of the door that failed was the last. For all doings for
-- which the server stood, it was given as the server does. After a fault the last event may be answered in part; and only if memory ran out in the
-- server's step may it be done in part. A server that is ended hears one event at most.
pub record HasServed {H Job : Type 0} (hub : Hub Job) (old new : Server H Job) (at since : Outside) (Goes : List DoorCall → Type 0) (first last turns : ℕ) (end : ServeEnd) : Type 0 where
  pub calls : List DoorCall
  pub goes : Goes (calls ++ failed_call end)
  pub turn_by_turn : ComeInTurns end calls
  pub count : AreTurns end turns (length (heard_in calls))
  pub few : old.is_ended ≡ true → length (heard_in calls) ≤ 1
  pub serves : (s : Setup) (h : List ServerEvent) → StandsServer hub s old h → moment h ≤ first
      → ServesOn hub s end (AtEnd hub s new at since last h) (HasEnded s new at last h) h (heard_in calls) calls
