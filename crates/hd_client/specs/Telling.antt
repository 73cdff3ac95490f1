-- What a client does that hears through a dialer: how long it lets that wait, and what it gives, draws, sees and prints in its turns.
use Rattle.std.specs.Prelude.{◌≡◌, ◌⊎◌, ℕ, zero, suc, Bool, true, false, List, [], ◌∷◌, ◌++◌, Option, Some, None, is_some, if◌then◌else◌}
use Rattle.hd_facts.specs.Prefixes.{IsPrefix}
use Rattle.hd_calls.specs.Hubs.{Hub}
use Rattle.hd_calls.specs.Peers.{Rounds}
use Rattle.hw_door.specs.declared.heard.Given.{Given}
use Rattle.hw_door.specs.declared.heard.Given.TheVariants as give
use Rattle.hw_door.specs.declared.heard.Heard.{Heard}
use Rattle.hw_door.specs.DoorCalls.{DoorAsk, DoorCall, heard, sent, flushed, failed, to_hear, to_say, full_in, given_in}
use Rattle.hw_door.specs.DoorCalls as door
use Rattle.hd_server.specs.Numbers.{most_wait}
use Rattle.hd_server.specs.Machine.{turn_with}
use Rattle.hd_server.specs.Serving.{AreGiving}
use Rattle.hd_dialing.specs.Events.{Asks, Shuts, is_away, wait_left}
use Rattle.hd_dialing.specs.Events as dial
use Rattle.hd_client.specs.declared.order.Order.{Order}
use Rattle.hd_client.specs.Setups.{Setup}
use Rattle.hd_client.specs.Events.{ClientEvent, Dialed, Says, Sees, GoesOn, outcome, dialing, settings_of, moves, phase_of}
use Rattle.hd_client.specs.Printed.{printed}
use Rattle.hd_client.specs.Turns.{Begin, Dials, Hears, HasBegun, IsTurn, MayBegin}

-- ---- what is told

-- what the dialer was given, the first first
abbrev pub given : List ClientEvent → List Given
given [] = []
given (Dialed (Asks lane ask) ∷ h) = given h ++ give.Ask lane ask.place ask.method ask.target ask.upgrade ∷ []
given (Dialed (Shuts lane) ∷ h) = given h ++ give.Shut lane ∷ []
given (Says lane bytes text ∷ h) = given h ++ give.Bytes lane bytes text ∷ []
given (_ ∷ h) = given h

-- what was answered to messages
abbrev pub seen : List ClientEvent → List Bool
seen [] = []
seen (Sees lane full ∷ h) = seen h ++ full ∷ []
seen (_ ∷ h) = seen h

abbrev pub draws : List ClientEvent → List (Option (List ℕ))
draws h = dial.draws (dialing h)

-- ---- waits

-- no job would have a turn in a round that begins now
abbrev pub is_idle : Setup → List ClientEvent → Bool
is_idle s h = if is_some (turn_with (settings_of s h) (Rounds ∷ moves h)) then false else true

-- for how long a client lets its dialer wait: not while a job would have a turn, and without a lane until it may be dialed
abbrev pub wait_for : Setup → List ClientEvent → ℕ
wait_for s h = if is_idle s h then (if is_away (phase_of h) then wait_left (dialing h) else most_wait) else 0

-- what is heard in a turn: nothing in one that dials
abbrev pub heard_in : Begin → List Heard
heard_in Dials = []
heard_in (Hears now event) = record { now = now; event = event } ∷ []

-- the call of its dialer that hears it
abbrev pub hearing : Setup → Begin → List ClientEvent → List DoorCall
hearing s Dials h = []
hearing s (Hears now event) h = heard (wait_for s h) (record { now = now; event = event }) ∷ []

-- ---- turns through a dialer

-- how its dialer was called beyond the calls before, as it answered; what its lots were told to have drawn; and what its output was given
pub record Told : Type 0 where
  pub calls : List DoorCall
  pub drawn : List (Option (List ℕ))
  pub printed : List ℕ

abbrev pub nothing_told : Told
nothing_told = record { calls = []; drawn = []; printed = [] }

-- one after the other
abbrev pub and_then : Told → Told → Told
and_then a b = record { calls = a.calls ++ b.calls; drawn = a.drawn ++ b.drawn; printed = a.printed ++ b.printed }

-- a turn, and what is told in it: first it hears, if it does, and then it gives
pub record TellsTurn {Job : Type 0} (hub : Hub Job) (s : Setup) (script : List Order) (begin : Begin) (h after : List ClientEvent) (told : Told) : Type 0 where
  pub may : MayBegin s begin h
  pub turn : IsTurn hub s script begin h after
  pub giving : List DoorCall
  pub hears : told.calls ≡ hearing s begin h ++ giving
  pub are_giving : AreGiving giving
  pub gives : given after ≡ given h ++ given_in giving
  pub answers : seen after ≡ seen h ++ full_in giving
  pub draws_more : draws after ≡ draws h ++ told.drawn
  pub prints : printed s after ≡ printed s h ++ told.printed

-- From a history on, so many turns tell this, each whole before the next, and `AtEnd` holds of the history then. Each but the last goes on
abbrev pub DialsOn : {Job : Type 0} → Hub Job → Setup → List Order → (List ClientEvent → Type 0) → ℕ → List ClientEvent → Told → Type 0
DialsOn hub s script AtEnd zero h told = (told ≡ nothing_told) × AtEnd h
DialsOn hub s script AtEnd (suc n) h told =
    (outcome s h ≡ GoesOn) × ((begin : Begin) × (after : List ClientEvent) × (own rest : Told) × TellsTurn hub s script begin h after own
    × (told ≡ and_then own rest) × DialsOn hub s script AtEnd n after rest)

-- ---- a turn that is cut short

pub data Cut : Type 0 where
  at_dialer : DoorAsk → Cut  -- its dialer fails, asked for this
  at_output : Cut
  in_work : Cut  -- memory runs out in its own work, before anything is said or printed

-- what a call asked of its dialer
abbrev pub ask_of : DoorCall → Option DoorAsk
ask_of (heard wait what) = Some (to_hear wait)
ask_of (door.given what is_said) = Some (to_say what)
ask_of (sent what is_said full) = Some (to_say what)
ask_of (failed ask why) = Some ask
ask_of flushed = None

-- these calls are a first part of those, and the next of those asks this
abbrev pub AreCutAt : DoorAsk → List DoorCall → List DoorCall → Type 0
AreCutAt ask calls whole = (next : DoorCall) × (ask_of next ≡ Some ask) × IsPrefix (calls ++ next ∷ []) whole

abbrev pub AreCutBegun : Cut → List DoorCall → List DoorCall → Type 0
AreCutBegun (at_dialer ask) calls whole = AreCutAt ask calls whole
AreCutBegun at_output calls whole = ⊥
AreCutBegun in_work calls whole = IsPrefix calls whole

-- in its beginning, or before it gives more: a first part is told of what a beginning tells, and nothing is printed
pub record TellsBegun (s : Setup) (cut : Cut) (h : List ClientEvent) (told : Told) : Type 0 where
  pub begin : Begin
  pub may : MayBegin s begin h
  pub begun : List ClientEvent
  pub begins : HasBegun s begin h begun
  pub giving : List DoorCall
  pub are_giving : AreGiving giving
  pub gives : given begun ≡ given h ++ given_in giving
  pub calls : AreCutBegun cut told.calls (hearing s begin h ++ giving)
  pub drawn : List (Option (List ℕ))
  pub draws_all : draws begun ≡ draws h ++ drawn
  pub draws_more : IsPrefix told.drawn drawn
  pub prints : told.printed ≡ []

-- what is printed comes last, once all is said
abbrev pub IsCutAtEnd : Cut → Told → Told → Type 0
IsCutAtEnd (at_dialer ask) told whole = AreCutAt ask told.calls whole.calls × (told.printed ≡ [])
IsCutAtEnd at_output told whole = (told.calls ≡ whole.calls) × IsPrefix told.printed whole.printed
IsCutAtEnd in_work told whole = ⊥

-- at its end: of a whole turn all is told but the last of what it says, or of what it prints
pub record TellsPart {Job : Type 0} (hub : Hub Job) (s : Setup) (script : List Order) (cut : Cut) (h : List ClientEvent) (told : Told) : Type 0 where
  pub begin : Begin
  pub after : List ClientEvent
  pub whole : Told
  pub tells : TellsTurn hub s script begin h after whole
  pub draws_all : told.drawn ≡ whole.drawn
  pub is_cut : IsCutAtEnd cut told whole

abbrev pub TellsCut : {Job : Type 0} → Hub Job → Setup → List Order → Cut → List ClientEvent → Told → Type 0
TellsCut hub s script cut h told = TellsBegun s cut h told ⊎ TellsPart hub s script cut h told

-- so many whole turns, and then one that was cut short
abbrev pub DialsCut : {Job : Type 0} → Hub Job → Setup → List Order → Cut → ℕ → List ClientEvent → Told → Type 0
DialsCut hub s script cut n h told =
    (own rest : Told) × (told ≡ and_then own rest) × DialsOn hub s script (λ k. TellsCut hub s script cut k rest) n h own
