-- What is promised of a client's turn, and of a run of turns, over a dialer, lots and an output.
use Rattle.std.specs.Prelude.{◌≡◌, ◌≢◌, ◌⊎◌, ◌≤◌, ◌<◌, ℕ, Bool, true, false, List, [], ◌∷◌, ◌++◌, Option, Result, Ok, Err}
use Rattle.std.specs.Io.KnownBytes.{Appends}
use Rattle.hd_facts.specs.Counts.{Rose, one_more}
use Rattle.hm_message.specs.declared.message.Codec.{Codec}
use Rattle.hd_delivery.specs.Worlds.{Limits}
use Rattle.he_wire.specs.Wires.{IsHouseWire}
use Rattle.hub_calc.specs.Client.{client_hub}
use Rattle.hw_door.specs.Calls.{AddsSome}
use Rattle.hw_door.specs.DoorCalls.{DoorAsk, DoorCall, failed}
use Rattle.hw_door.specs.declared.error.DoorError.{DoorError}
use Rattle.hw_door.specs.declared.error.DoorError.TheVariants as door
use Rattle.hw_door.specs.declared.heard.Address.{Address}
use Rattle.hd_dialing.specs.Asks.{setup_at}
use Rattle.hd_client.specs.declared.order.Order.{Order}
use Rattle.hd_client.specs.Setups.{Setup}
use Rattle.hd_client.specs.Events.{ClientEvent, GoesOn, IsDone, IsRefused, FailsToDraw, outcome}
use Rattle.hd_client.specs.Turns.{Begin}
use Rattle.hd_client.specs.Telling.{Told, Cut, at_dialer, at_output, in_work, nothing_told, TellsTurn, TellsCut, DialsOn, DialsCut}
use Rattle.hn_dialing.specs.declared.errors.DialFault.{DialFault}
use Rattle.hn_dialing.specs.declared.errors.DialFault.TheVariants as dial
use Rattle.sr_client.specs.declared.client.ClientError.{ClientError}
use Rattle.sr_client.specs.declared.client.ClientError.TheVariants as error
use Rattle.sr_client.specs.Lines.{json_words}

-- how a client of this address is begun, over any wire of the house: it is the first address of its dialer, and values are printed as JSON
pub record IsSetup (s : Setup) (address : Address) (codec : Codec) (limits : Limits) : Type 0 where
  pub dialing : s.dialing ≡ setup_at 0 address
  pub speaks : s.codec ≡ codec
  pub wire : IsHouseWire limits.frame s.wire
  pub holds : s.limits ≡ limits
  pub words : s.words ≡ json_words

-- ---- faults

abbrev pub error_of_dialer : DoorError → ClientError
error_of_dialer door.Failed = error.Dial
error_of_dialer door.NoMemory = error.NoMemory

abbrev pub error_of_dial : DialFault → ClientError
error_of_dial dial.Dialer = error.Dial
error_of_dial dial.NoMemory = error.NoMemory

-- how often each has failed that a client is handed
pub record Faults : Type 0 where
  pub dialer : ℕ
  pub lots : ℕ
  pub output : ℕ

abbrev pub faults : ℕ → ℕ → ℕ → Faults
faults dialer lots output = record { dialer = dialer; lots = lots; output = output }

abbrev pub HasRisen : ℕ → ℕ → Type 0
HasRisen before now = (before ≤ now) × Rose before now

-- one call failed
abbrev pub HasFailedOnce : ℕ → ℕ → Type 0
HasFailedOnce before now = (before ≤ now) × (now ≡ one_more before)

-- one of them failed only if its count rose, that of the output by one, and then no other did. Else none did
abbrev pub IsCausedBy : {T : Type 0} → Faults → Faults → Result T ClientError → Type 0
IsCausedBy old new (Ok answer) = new ≡ old
IsCausedBy old new (Err error.Refused) = new ≡ old
IsCausedBy old new (Err error.Dial) = HasRisen old.dialer new.dialer × (new ≡ faults new.dialer old.lots old.output)
IsCausedBy old new (Err error.Write) = HasFailedOnce old.output new.output × (new ≡ faults old.dialer old.lots new.output)
IsCausedBy old new (Err error.Lots) = HasRisen old.lots new.lots × (new ≡ faults old.dialer new.lots old.output)
IsCausedBy old new (Err error.NoMemory) = new ≡ old
IsCausedBy old new (Err error.Turns) = new ≡ old

-- ---- what is told

-- the dialer went by these calls, and then the last; the lots drew this, if they tell it; and the output was given this, if it is known
pub record WentSo (Goes : List DoorCall → Type 0) (drawn since : Option (List (Option (List ℕ)))) (held now : Option (List ℕ)) (last : List DoorCall) (told : Told) : Type 0 where
  pub goes : Goes (told.calls ++ last)
  pub draws : AddsSome drawn since told.drawn
  pub puts : Appends held now told.printed

-- the output is as it was, or it took at least one byte, if it tells the bytes that it holds
abbrev pub IsTouchedByBytes : {K : Type 0} → (K → Option (List ℕ)) → K → K → Type 0
IsTouchedByBytes holds before now = (now ≡ before) ⊎ ((text : List ℕ) × (text ≢ []) × Appends (holds before) (holds now) text)

-- the call that failed where a turn was cut so
abbrev pub failed_at : Cut → DoorError → List DoorCall
failed_at (at_dialer ask) why = failed ask why ∷ []
failed_at at_output why = []
failed_at in_work why = []

-- ---- a turn

-- a whole turn was told, and `AtEnd` holds of what the client did then
pub record IsWhole (s : Setup) (script : List Order) (AtEnd : List ClientEvent → Type 0) (Went : List DoorCall → Told → Type 0) (h : List ClientEvent) : Type 0 where
  pub begin : Begin
  pub after : List ClientEvent
  pub told : Told
  pub tells : TellsTurn client_hub s script begin h after told
  pub went : Went [] told
  pub at_end : AtEnd after

-- a turn was cut so, and this is told of it
pub record IsCut (s : Setup) (script : List Order) (cut : Cut) (why : DoorError) (Went : List DoorCall → Told → Type 0) (h : List ClientEvent) : Type 0 where
  pub told : Told
  pub tells : TellsCut client_hub s script cut h told
  pub went : Went (failed_at cut why) told

-- By what a turn answers: it isn't done, and `Goes` holds of what it did then, or it is over by its outcome; or it was cut short
abbrev pub TurnsBy : Setup → List Order → (List ClientEvent → Type 0) → (List DoorCall → Told → Type 0) → List ClientEvent → Result Bool ClientError → Type 0
TurnsBy s script Goes Went h (Ok false) = IsWhole s script Goes Went h
TurnsBy s script Goes Went h (Ok true) = IsWhole s script (λ after. outcome s after ≡ IsDone) Went h
TurnsBy s script Goes Went h (Err error.Refused) = IsWhole s script (λ after. outcome s after ≡ IsRefused) Went h
TurnsBy s script Goes Went h (Err error.Lots) = IsWhole s script (λ after. outcome s after ≡ FailsToDraw) Went h
TurnsBy s script Goes Went h (Err error.Dial) = (ask : DoorAsk) × IsCut s script (at_dialer ask) door.Failed Went h
TurnsBy s script Goes Went h (Err error.Write) = IsCut s script at_output door.Failed Went h
TurnsBy s script Goes Went h (Err error.NoMemory) = IsCut s script in_work door.NoMemory Went h ⊎ ((ask : DoorAsk) × IsCut s script (at_dialer ask) door.NoMemory Went h)
TurnsBy s script Goes Went h (Err error.Turns) = ⊥

-- what it answers tells what was told
pub record HasTurned (s : Setup) (script : List Order) (Goes : List ClientEvent → Type 0) (Went : List DoorCall → Told → Type 0) (h : List ClientEvent)
    (result : Result Bool ClientError) : Type 0 where
  pub by : TurnsBy s script Goes Went h result

-- ---- a run

-- so many whole turns were told, and `AtEnd` holds of what the client did in them
pub record RunsWhole (s : Setup) (script : List Order) (AtEnd : List ClientEvent → Type 0) (Went : List DoorCall → Told → Type 0) (n : ℕ) : Type 0 where
  pub told : Told
  pub dials : DialsOn client_hub s script AtEnd n [] told
  pub went : Went [] told

-- and then one that was cut so
pub record RunsCut (s : Setup) (script : List Order) (cut : Cut) (why : DoorError) (Went : List DoorCall → Told → Type 0) (n : ℕ) : Type 0 where
  pub told : Told
  pub dials : DialsCut client_hub s script cut n [] told
  pub went : Went (failed_at cut why) told

-- By what a run of at most so many turns answers: what is told is that of a client's turns, the last of which ended it so, or was cut short; or they
-- were all done, and it isn't over; or memory ran out before the first
abbrev pub RunsBy : Setup → List Order → (List DoorCall → Told → Type 0) → ℕ → Result Unit ClientError → Type 0
RunsBy s script Went turns (Ok done) = (n : ℕ) × (n ≤ turns) × RunsWhole s script (λ h. outcome s h ≡ IsDone) Went n
RunsBy s script Went turns (Err error.Refused) = (n : ℕ) × (n ≤ turns) × RunsWhole s script (λ h. outcome s h ≡ IsRefused) Went n
RunsBy s script Went turns (Err error.Lots) = (n : ℕ) × (n ≤ turns) × RunsWhole s script (λ h. outcome s h ≡ FailsToDraw) Went n
RunsBy s script Went turns (Err error.Turns) = RunsWhole s script (λ h. outcome s h ≡ GoesOn) Went turns
RunsBy s script Went turns (Err error.Dial) = (n : ℕ) × (n < turns) × ((ask : DoorAsk) × RunsCut s script (at_dialer ask) door.Failed Went n)
RunsBy s script Went turns (Err error.Write) = (n : ℕ) × (n < turns) × RunsCut s script at_output door.Failed Went n
RunsBy s script Went turns (Err error.NoMemory) =
    Went [] nothing_told ⊎ ((n : ℕ) × (n < turns) × (RunsCut s script in_work door.NoMemory Went n
    ⊎ ((ask : DoorAsk) × RunsCut s script (at_dialer ask) door.NoMemory Went n)))

-- what it answers tells what was told
pub record HasRun (s : Setup) (script : List Order) (Went : List DoorCall → Told → Type 0) (turns : ℕ) (result : Result Unit ClientError) : Type 0 where
  pub by : RunsBy s script Went turns result
