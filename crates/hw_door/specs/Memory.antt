-- Doors and dialers in memory, as contracts see them.
use Rattle.std.specs.Prelude.{◌≡◌, ℕ, ◌≤◌, Bool, true, false, IsTrue, List, [], ◌∷◌, length, drop, Result, Ok, Err, count_by}
use Rattle.hd_facts.specs.Counts.{one_more}
use Rattle.hw_door.specs.declared.heard.Heard.{Heard}
use Rattle.hw_door.specs.declared.heard.Event.TheVariants.{Quiet}
use Rattle.hw_door.specs.declared.heard.Given.{Given}
use Rattle.hw_door.specs.declared.heard.Given.TheVariants as given
use Rattle.hw_door.specs.declared.error.DoorError.{DoorError}
use Rattle.hw_door.specs.declared.error.DoorError.TheVariants.{Failed, NoMemory}
use Rattle.hw_door.specs.Calls.{Trace, with_heard, with_said, with_full, is_listed}
use Rattle.hw_door.specs.DoorCalls.{DoorCall}
use Rattle.hw_door.specs.DoorCalls as call

-- what is left to be heard, what it tells, the moment heard last, the numbers of the calls that are to fail, those of the messages that
-- leave their lanes full, the number of the next call, and the count of faults
pub record MemoryScript : Type 0 where
  pub left : List Heard
  pub trace : Trace
  pub moment : ℕ
  pub failing : List ℕ
  pub filling : List ℕ
  pub calls : ℕ
  pub faults : ℕ

-- the moments never fall, from this one on
abbrev pub NeverFalls : ℕ → List Heard → Type 0
NeverFalls moment [] = Unit {0}
NeverFalls moment (heard ∷ more) = (moment ≤ heard.now) × NeverFalls heard.now more

-- the state at the start
abbrev pub script_of : List Heard → List ℕ → List ℕ → MemoryScript
script_of heard failing filling = record {
  left = heard;
  trace = record { heard = []; waits = []; given = []; said = []; full = [] };
  moment = 0;
  failing = failing;
  filling = filling;
  calls = 0;
  faults = 0;
}

-- the next call is one that is to fail
abbrev pub ScriptFails : MemoryScript → Type 0
ScriptFails script = IsTrue (is_listed script.failing script.calls)

-- what is heard next: the first that is left, and when nothing is, quiet at the moment heard last
abbrev pub next_of : List Heard → ℕ → Heard
next_of [] moment = record { now = moment; event = Quiet }
next_of (heard ∷ more) moment = heard

-- a call fails at the calls that are to fail, and at no others
abbrev pub FailsIf : {T : Type 0} → Type 0 → Result T DoorError → Type 0
FailsIf P (Ok answer) = P → ⊥
FailsIf P (Err why) = why ≡ Failed → P

-- after a call that failed nothing is gone, and nothing was kept. Out of memory it is as if the call wasn't made
abbrev pub after_error : DoorError → MemoryScript → MemoryScript
after_error Failed script = record script { calls = one_more script.calls; faults = one_more script.faults }
after_error NoMemory script = script

-- after a call of `next` with this wait and this result
abbrev pub after_next : ℕ → Result Heard DoorError → MemoryScript → MemoryScript
after_next wait (Ok heard) script = record script {
  left = drop 1 script.left;
  trace = with_heard wait heard script.trace;
  moment = heard.now;
  calls = one_more script.calls;
}
after_next wait (Err why) script = after_error why script

-- after a call that was given this to say, with this result
abbrev pub after_saying : {T : Type 0} → (T → Given) → Result T DoorError → MemoryScript → MemoryScript
after_saying given (Ok answer) script = record script { trace = with_said (given answer) script.trace; calls = one_more script.calls }
after_saying given (Err why) script = after_error why script

-- whether the next message leaves its lane full. Messages are numbered from 0, without those of calls that failed
abbrev pub fills : MemoryScript → Bool
fills script = is_listed script.filling (length script.trace.full)

-- after a call that was given this message, with this result
abbrev pub after_sending : Given → Result Bool DoorError → MemoryScript → MemoryScript
after_sending given (Ok full) script = record script { trace = with_full full (with_said given script.trace); calls = one_more script.calls }
after_sending given (Err why) script = after_error why script

-- it asks
abbrev pub is_ask : Given → Bool
is_ask (given.Ask lane place method target upgrade) = true
is_ask (given.Reply lane reply) = false
is_ask (given.Bytes lane bytes text) = false
is_ask (given.Shut lane) = false

-- how often it was asked
abbrev pub asks_of : MemoryScript → ℕ
asks_of script = count_by is_ask script.trace.given

-- One call of a door in memory: it hears what is next and says all that it is given, with the answers that it was made with, and fails at the
-- calls that are to fail and at no others.
abbrev pub CallsMemory : DoorCall → MemoryScript → MemoryScript → Type 0
CallsMemory (call.heard wait what) before after =
    (what ≡ next_of before.left before.moment) × (ScriptFails before → ⊥) × (after ≡ after_next wait (Ok what) before)
CallsMemory (call.given what is_said) before after =
    (is_said ≡ true) × (ScriptFails before → ⊥)
    × (after ≡ record before { trace = with_said what before.trace; calls = one_more before.calls })
CallsMemory (call.sent what is_said full) before after =
    (is_said ≡ true) × (ScriptFails before → ⊥) × (full ≡ fills before) × (after ≡ after_sending what (Ok full) before)
CallsMemory call.flushed before after = after ≡ before
CallsMemory (call.failed asked why) before after = (why ≡ Failed → ScriptFails before) × (after ≡ after_error why before)
