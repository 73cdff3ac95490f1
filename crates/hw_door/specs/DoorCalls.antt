-- The calls of a door or a dialer, one after the other, as they were answered.
use Rattle.std.specs.Prelude.{◌≡◌, ℕ, Bool, true, false, List, [], ◌∷◌, flat_map, Option, Result, Ok, Err}
use Rattle.hw_lanes.specs.declared.http.Method.{Method}
use Rattle.hw_door.specs.declared.heard.Upgrade.{Upgrade}
use Rattle.hw_door.specs.declared.heard.Heard.{Heard}
use Rattle.hw_door.specs.declared.heard.Given.{Given}
use Rattle.hw_door.specs.declared.heard.Given.TheVariants.{Ask}
use Rattle.hw_door.specs.declared.error.DoorError.{DoorError}

-- what a call asks of a door, or of a dialer
pub data DoorAsk : Type 0 where
  -- to hear what happens next, with a wait of at most so many milliseconds
  to_hear : ℕ → DoorAsk
  to_say : Given → DoorAsk

-- one call, as it was answered
pub data DoorCall : Type 0 where
  -- this was heard, with a wait of at most so many milliseconds
  heard : ℕ → Heard → DoorCall
  -- this was given, and is said, or not, as its lane is broken. What is said may be dropped later, with its lane
  given : Given → Bool → DoorCall
  -- this message was given, and is said, or not; and the answer was whether its lane is full then
  sent : Given → Bool → Bool → DoorCall
  flushed : DoorCall
  -- a call that failed, or was out of memory
  failed : DoorAsk → DoorError → DoorCall

-- ---- one call, by its result

abbrev pub heard_call : ℕ → Result Heard DoorError → DoorCall
heard_call wait (Ok what) = heard wait what
heard_call wait (Err why) = failed (to_hear wait) why

abbrev pub given_call : {T : Type 0} → Given → Bool → Result T DoorError → DoorCall
given_call what is_said (Ok answer) = given what is_said
given_call what is_said (Err why) = failed (to_say what) why

abbrev pub sent_call : Given → Bool → Result Bool DoorError → DoorCall
sent_call what is_said (Ok full) = sent what is_said full
sent_call what is_said (Err why) = failed (to_say what) why

-- An ask is answered with its lane; one that failed has none, and any lane stands for it. What is asked is said, or not, as nothing stands at the address
abbrev pub asked_call : ℕ → Method → List ℕ → Option Upgrade → ℕ → Bool → Result ℕ DoorError → DoorCall
asked_call place method target upgrade unanswered is_said (Ok lane) = given (Ask lane place method target upgrade) is_said
asked_call place method target upgrade unanswered is_said (Err why) = failed (to_say (Ask unanswered place method target upgrade)) why

-- ---- what calls were

-- what was heard, in order
abbrev pub heard_of : DoorCall → List Heard
heard_of (heard wait what) = what ∷ []
heard_of _ = []

abbrev pub heard_in : List DoorCall → List Heard
heard_in calls = flat_map heard_of calls

-- what was given to be said, in order
abbrev pub given_of : DoorCall → List Given
given_of (given what is_said) = what ∷ []
given_of (sent what is_said full) = what ∷ []
given_of _ = []

abbrev pub given_in : List DoorCall → List Given
given_in calls = flat_map given_of calls

-- what was answered to the messages among it: whether the lane is full then
abbrev pub full_of : DoorCall → List Bool
full_of (sent what is_said full) = full ∷ []
full_of _ = []

abbrev pub full_in : List DoorCall → List Bool
full_in calls = flat_map full_of calls

-- something was given in the call
abbrev pub is_giving : DoorCall → Bool
is_giving (given what is_said) = true
is_giving (sent what is_said full) = true
is_giving _ = false

-- the call didn't fail
abbrev pub is_answered : DoorCall → Bool
is_answered (failed asked why) = false
is_answered _ = true

-- ---- calls one after the other

-- from one state to another, with each of the calls a step of this kind
abbrev pub Chain : {S : Type 0} → (DoorCall → S → S → Type 0) → S → List DoorCall → S → Type 0
Chain Step before [] after = after ≡ before
Chain {S} Step before (call ∷ calls) after = (mid : S) × Step call before mid × Chain Step mid calls after
