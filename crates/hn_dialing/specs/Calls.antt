-- What a call on a connection comes to: a move, and what the dialer and the lots are told of it.
use Rattle.std.specs.Prelude.{◌≡◌, ◌≤◌, ◌<◌, ℕ, Bool, true, false, List, [], ◌∷◌, ◌++◌, Option, Some, None, Result, Ok, Err, is_some}
use Rattle.std.specs.List.{list_all}
use Rattle.hd_facts.specs.Counts.{Rose}
use Rattle.hd_facts.specs.Prefixes.{IsPrefix}
use Rattle.hw_door.specs.declared.error.DoorError.{DoorError}
use Rattle.hw_door.specs.declared.error.DoorError.TheVariants as door
use Rattle.hw_door.specs.declared.heard.Given.{Given}
use Rattle.hw_door.specs.declared.heard.Given.TheVariants as give
use Rattle.hw_door.specs.DoorCalls.{DoorCall, failed, to_say, given_in, full_in, is_giving}
use Rattle.hd_dialing.specs.Asks.{Setup}
use Rattle.hd_dialing.specs.Events.{DialEvent, Shuts, draws}
use Rattle.hd_dialing.specs.Plans.{Dial}
use Rattle.hd_dialing.specs.Dialing.{Dials, moved, MayMove}
use Rattle.hd_dialing.specs.Telling.{given}
use Rattle.hd_dialing.specs.Plans as plan
use Rattle.hn_dialing.specs.declared.connection.Connection.{Connection}
use Rattle.hn_dialing.specs.declared.errors.DialFault.{DialFault}
use Rattle.hn_dialing.specs.declared.errors.DialFault.TheVariants as fault
use Rattle.hn_dialing.specs.declared.news.News.{News}
use Rattle.hn_dialing.specs.declared.news.News.TheVariants as code
use Rattle.hn_dialing.specs.declared.phase.Phase.TheVariants.{Over}
use Rattle.hn_dialing.specs.Stands.{Stands}

-- ---- faults

abbrev pub fault_by : DoorError → DialFault
fault_by door.Failed = fault.Dialer
fault_by door.NoMemory = fault.NoMemory

-- what broke a call off: a call of the dialer that failed as it was given this; or there was no memory
pub data Stop : Type 0 where
  at_dialer : (next : Given) → (why : DoorError) → Stop
  at_memory : Stop

abbrev pub failed_call : Stop → List DoorCall
failed_call (at_dialer next why) = failed (to_say next) why ∷ []
failed_call at_memory = []

abbrev pub given_last : Stop → List Given
given_last (at_dialer next why) = next ∷ []
given_last at_memory = []

abbrev pub fault_of : Stop → DialFault
fault_of (at_dialer next why) = fault_by why
fault_of at_memory = fault.NoMemory

-- the dialer failed only if its count of faults rose. Else that is as it was
abbrev pub IsCausedBy : {T : Type 0} → ℕ → ℕ → Result T DialFault → Type 0
IsCausedBy before now (Ok answer) = now ≡ before
IsCausedBy before now (Err fault.Dialer) = (before ≤ now) × Rose before now
IsCausedBy before now (Err fault.NoMemory) = now ≡ before

-- by the count of faults of lots that gave this: it rose exactly at a draw that failed
abbrev pub IsCountOf : List (Option (List ℕ)) → ℕ → ℕ → Type 0
IsCountOf [] before now = now ≡ before
IsCountOf (Some drawn ∷ ds) before now = IsCountOf ds before now
IsCountOf (None ∷ ds) before now = (before ≤ now) × Rose before now

-- each lane on which something was asked is a new one, by the bounds below which all lanes lay before and lie now
abbrev pub AreNewLanes : List Given → ℕ → ℕ → Type 0
AreNewLanes [] before now = before ≤ now
AreNewLanes (give.Ask lane place method target upgrade ∷ gs) before now = (before ≤ lane) × (lane < now) × AreNewLanes gs before now
AreNewLanes (g ∷ gs) before now = AreNewLanes gs before now

-- ---- what is told

-- of what is new the dialer and the lots were told all
pub record TellsAll (new : List DialEvent) (Goes : List DoorCall → Type 0) (Drew : List (Option (List ℕ)) → Type 0) : Type 0 where
  pub calls : List DoorCall
  pub goes : Goes calls
  pub giving : list_all is_giving calls ≡ true
  pub no_messages : full_in calls ≡ []
  pub gives : given_in calls ≡ given new
  pub drew : Drew (draws new)

-- or a first part, and this broke it off. No draw failed, as nothing is asked after one
pub record TellsPart (new : List DialEvent) (Goes : List DoorCall → Type 0) (Drew : List (Option (List ℕ)) → Type 0) (stop : Stop) : Type 0 where
  pub calls : List DoorCall
  pub goes : Goes (calls ++ failed_call stop)
  pub giving : list_all is_giving calls ≡ true
  pub no_messages : full_in calls ≡ []
  pub gives : IsPrefix (given_in calls ++ given_last stop) (given new)
  pub drawn : List (Option (List ℕ))
  pub drew : Drew drawn
  pub draws_first : IsPrefix drawn (draws new)
  pub draws_gave : list_all is_some drawn ≡ true

-- by the result of the call that tells it
abbrev pub Tells : {T : Type 0} → List DialEvent → (List DoorCall → Type 0) → (List (Option (List ℕ)) → Type 0) → Result T DialFault → Type 0
Tells new Goes Drew (Ok answer) = TellsAll new Goes Drew
Tells new Goes Drew (Err why) = (stop : Stop) × (why ≡ fault_of stop) × TellsPart new Goes Drew stop

-- ---- what is done

-- To each history for which the connection stood, and after which this may come, the call adds what is new, and the connection stands for all of it
pub record Does (May : List DialEvent → Type 0) (after : Setup → List DialEvent → List DialEvent) (old now : Connection)
    (Goes : List DoorCall → Type 0) (Drew : List (Option (List ℕ)) → Type 0) : Type 0 where
  pub new : List DialEvent
  pub tells : TellsAll new Goes Drew
  pub adds : (s : Setup) (h : List DialEvent) → Stands s old h → May h → after s h ≡ new ++ h
  pub stands : (s : Setup) (h : List DialEvent) → Stands s old h → May h → Stands s now (after s h)

-- the call broke off as it did this
pub record BreaksOff (May : List DialEvent → Type 0) (after : Setup → List DialEvent → List DialEvent) (old : Connection)
    (Goes : List DoorCall → Type 0) (Drew : List (Option (List ℕ)) → Type 0) (why : DialFault) : Type 0 where
  pub new : List DialEvent
  pub stop : Stop
  pub cause : why ≡ fault_of stop
  pub tells : TellsPart new Goes Drew stop
  pub adds : (s : Setup) (h : List DialEvent) → Stands s old h → May h → after s h ≡ new ++ h

abbrev pub DoesBy : {T : Type 0} → (List DialEvent → Type 0) → (Setup → List DialEvent → List DialEvent) → Connection → Connection
    → (List DoorCall → Type 0) → (List (Option (List ℕ)) → Type 0) → Result T DialFault → Type 0
DoesBy May after old now Goes Drew (Ok answer) = Does May after old now Goes Drew
DoesBy May after old now Goes Drew (Err why) = BreaksOff May after old Goes Drew why

-- nothing was asked or drawn in the call, and it is over still
abbrev pub IsIdle : Connection → Type 0 → Type 0 → Result News DialFault → Type 0
IsIdle now StillGoes StillDrew result = (now.phase ≡ Over) × (result ≡ Ok code.Nothing) × StillGoes × StillDrew

-- ---- lanes that are given up

-- what is new once the lane is given up that is answered
abbrev pub shut_of : Option ℕ → List DialEvent
shut_of None = []
shut_of (Some lane) = Shuts lane ∷ []

-- ---- dials

-- it is dialed exactly if it is due
abbrev pub dials_by : Result Bool DialFault → Bool
dials_by (Ok dials) = dials
dials_by (Err why) = true

-- what the answer says: it was dialed, or it isn't due, and nothing was done
abbrev pub DialsIf : Bool → Dial → Connection → Connection → (List DoorCall → Type 0) → (List (Option (List ℕ)) → Type 0) → Type 0
DialsIf true d old now Goes Drew = Does (MayMove (Dials d)) (λ s. moved s (Dials d)) old now Goes Drew
DialsIf false d old now Goes Drew = (now ≡ old) × Goes [] × Drew []

abbrev pub DialsBy : Dial → Connection → Connection → (List DoorCall → Type 0) → (List (Option (List ℕ)) → Type 0) → Result Bool DialFault → Type 0
DialsBy d old now Goes Drew (Ok dials) = DialsIf dials d old now Goes Drew
DialsBy d old now Goes Drew (Err why) = BreaksOff (MayMove (Dials d)) (λ s. moved s (Dials d)) old Goes Drew why

-- ---- news

abbrev pub news_of : News → plan.News
news_of code.Nothing = plan.Nothing
news_of (code.Begins lane) = plan.Begins lane
news_of (code.Brings bytes) = plan.Brings bytes.now
news_of code.Drains = plan.Drains
news_of code.Ends = plan.Ends
