-- What the calls of the outside do to what it tells, and to its count of faults. What is told is None if nobody can know it.
use Rattle.std.specs.Prelude.{◌≡◌, ◌⊎◌, ◌==◌, ℕ, ◌+◌, ◌≤◌, Bool, List, [], ◌∷◌, ◌++◌, Option, Some, None, Result, Ok, Err, option_map}
use Rattle.std.specs.List.{list_any}
use Rattle.hd_facts.specs.Counts.{Rose}
use Rattle.hw_door.specs.declared.heard.Heard.{Heard}
use Rattle.hw_door.specs.declared.heard.Given.{Given}
use Rattle.hw_door.specs.declared.error.DoorError.{DoorError}
use Rattle.hw_door.specs.declared.error.DoorError.TheVariants.{Failed, NoMemory}

-- the call of this number is one of those that are listed
abbrev pub is_listed : List ℕ → ℕ → Bool
is_listed listed call = list_any (λ number. number == call) listed

-- ---- faults

-- the outside failed only if the count rose. Out of memory it is as it was
abbrev pub IsCaused : ℕ → ℕ → DoorError → Type 0
IsCaused before now Failed = (before ≤ now) × Rose before now
IsCaused before now NoMemory = now ≡ before

-- so it is of a call, at whose Ok the count is as it was
abbrev pub HasFaultCause : {T : Type 0} → ℕ → ℕ → Result T DoorError → Type 0
HasFaultCause before now (Ok answer) = now ≡ before
HasFaultCause before now (Err why) = IsCaused before now why

-- ---- what lots tell

-- if the list is still told, it has this at its end, which it hadn't before
abbrev pub Adds : {A : Type 0} → Option (List A) → Option (List A) → A → Type 0
Adds before None one = Unit {0}
Adds None (Some now) one = ⊥
Adds (Some before) (Some now) one = now ≡ before ++ one ∷ []

-- if the list is still told, it has these at its end
abbrev pub AddsSome : {A : Type 0} → Option (List A) → Option (List A) → List A → Type 0
AddsSome before None some = Unit {0}
AddsSome None (Some now) some = ⊥
AddsSome (Some before) (Some now) some = now ≡ before ++ some

-- ---- what doors and dialers tell

-- what was heard, how long each time it was to wait at most, what was given to be said, which of that was said, and what was answered to the
-- messages among it: whether the lane is full then. All are in order
pub record Trace : Type 0 where
  pub heard : List Heard
  pub waits : List ℕ
  pub given : List Given
  pub said : List Given
  pub full : List Bool

-- this was heard too, with this wait
abbrev pub with_heard : ℕ → Heard → Trace → Trace
with_heard wait heard trace = record trace { heard = trace.heard ++ heard ∷ []; waits = trace.waits ++ wait ∷ [] }

-- this was given too, and said
abbrev pub with_said : Given → Trace → Trace
with_said given trace = record trace { given = trace.given ++ given ∷ []; said = trace.said ++ given ∷ [] }

-- this was given too, and not said, as its lane is broken
abbrev pub with_unsaid : Given → Trace → Trace
with_unsaid given trace = record trace { given = trace.given ++ given ∷ [] }

-- this was answered to a message too
abbrev pub with_full : Bool → Trace → Trace
with_full full trace = record trace { full = trace.full ++ full ∷ [] }

-- what a call of `next` adds: at Ok what was heard, and nothing after an error
abbrev pub Hears : Option Trace → Option Trace → ℕ → Result Heard DoorError → Type 0
Hears before now wait (Ok heard) = now ≡ option_map (with_heard wait heard) before
Hears before now wait (Err why) = now ≡ before

-- what a call that is given something adds: at Ok that, said or not, and nothing after an error
abbrev pub Says : {T : Type 0} → Option Trace → Option Trace → (T → Given) → Result T DoorError → Type 0
Says before now given (Ok answer) =
    (now ≡ option_map (with_said (given answer)) before) ⊎ (now ≡ option_map (with_unsaid (given answer)) before)
Says before now given (Err why) = now ≡ before

-- what a call that is given a message adds: at Ok that, said or not, and the answer, and nothing after an error
abbrev pub Sends : Option Trace → Option Trace → Given → Result Bool DoorError → Type 0
Sends before now given (Ok full) =
    (now ≡ option_map (λ trace. with_full full (with_said given trace)) before)
    ⊎ (now ≡ option_map (λ trace. with_full full (with_unsaid given trace)) before)
Sends before now given (Err why) = now ≡ before

-- the moment heard last: at Ok that of what was heard, which is no earlier, and the same after an error
abbrev pub IsLater : ℕ → ℕ → Result Heard DoorError → Type 0
IsLater before now (Ok heard) = (before ≤ heard.now) × (now ≡ heard.now)
IsLater before now (Err why) = now ≡ before

-- the bound below which all lanes lie that were answered: at Ok the lane is new, and the bound is as it was after an error
abbrev pub IsNewLane : ℕ → ℕ → Result ℕ DoorError → Type 0
IsNewLane before now (Ok lane) = (before ≤ lane) × (lane + 1 ≤ now)
IsNewLane before now (Err why) = now ≡ before
