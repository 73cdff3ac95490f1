-- What a dialer does in one call.
use Rattle.std.specs.Prelude.{◌≡◌, ◌⊎◌, ◌+◌, ℕ, Bool, false, List, [], ◌∷◌, ◌++◌, is_some, length, max, Option, None, Some, option_map, unwrap_or}
use Rattle.hw_lanes.specs.declared.http.Method.{Method}
use Rattle.hw_door.specs.declared.heard.Address.{Address}
use Rattle.hw_door.specs.declared.heard.Event.{Event}
use Rattle.hw_door.specs.declared.heard.Event.TheVariants as event
use Rattle.hw_door.specs.declared.heard.Heard.{Heard}
use Rattle.hw_door.specs.declared.heard.Upgrade.{Upgrade}
use Rattle.hw_door.specs.Traffic.{Answer, IsNewWire, connected, connect_failed, polled, poll_failed, was_shut}
use Rattle.hw_net.specs.declared.numbers.LaneWire.{LaneWire}
use Rattle.hw_net.specs.Asking.{text_at}
use Rattle.hw_net.specs.Door.{DoorState, Begins, DoesAt, HearsTurns, kept, state_of, time_to_wait}
use Rattle.hw_net.specs.Flushing.{FlushesDoor, Gathers}
use Rattle.hw_net.specs.Halting.{HaltsAll}
use Rattle.hw_net.specs.Lane.{Lane, dialed_lane}
use Rattle.hw_net.specs.LaneNumbers.{on_lane, still_there, wire_of}
use Rattle.hw_net.specs.Parts.{DialerParts}
use Rattle.hw_net.specs.Saying.{WritesIfLive, is_gathered, is_too_much}
use Rattle.hw_net.specs.Trace.{Chooses}
use Rattle.hw_net.specs.Turn.{AtLane}

-- the lanes by their wires, as a door has them, and a dialer's own numbers of them (`DialerParts`)
pub record DialerState : Type 0 where
  pub door : DoorState
  pub numbers : List LaneWire
  pub failed : List ℕ
  pub last : ℕ

abbrev pub dialer_state_of : {W : Type 0} → DialerParts W → DialerState
dialer_state_of parts = record { door = state_of parts.reactor; numbers = parts.numbers; failed = parts.failed; last = parts.last }

-- ---- an ask

-- what is told of a connection that was begun on this wire, or of one that failed
abbrev pub dialed_answer : Option ℕ → Answer
dialed_answer (Some wire) = connected wire
dialed_answer None = connect_failed

-- the lanes with that of the wire that was dialed, if one was, on which this waits to be written
abbrev pub with_dialed : ℕ → List ℕ → Option Upgrade → Option ℕ → List Lane → List Lane
with_dialed now text upgrade None lanes = lanes
with_dialed now text upgrade (Some wire) lanes = lanes ++ dialed_lane now wire text upgrade ∷ []

-- an ask of this size that is long is written at once on its wire, as far as that takes it, and another one is gathered
abbrev pub WritesLong : ℕ → Option ℕ → List Lane → List Lane → List Answer → Type 0
WritesLong size None before after answers = (after ≡ before) × (answers ≡ [])
WritesLong size (Some wire) before after answers = Chooses (is_gathered size) ((after ≡ before) × (answers ≡ [])) (AtLane wire WritesIfLive before after answers)

-- a connection is begun for this text, and gives this wire, on which its lane stands then, or fails
abbrev pub Dials : List ℕ → Option Upgrade → Option ℕ → DoorState → DoorState → List Answer → Type 0
Dials text upgrade wire before after answers =
    (more : List Answer) × (answers ≡ dialed_answer wire ∷ more) × WritesLong (length text) wire (with_dialed before.moment text upgrade wire before.lanes) after.lanes more
    × (after ≡ record before { lanes = after.lanes })

-- an ask that goes nowhere
abbrev pub IsUndialed : Option ℕ → DoorState → DoorState → List Answer → Type 0
IsUndialed wire before after answers = (wire ≡ None) × (after ≡ before) × (answers ≡ [])

-- so is one for which no address stands at its place, or of which more would wait than may
abbrev pub Reaches : Option Address → Method → List ℕ → Option Upgrade → Option ℕ → DoorState → DoorState → List Answer → Type 0
Reaches None method target upgrade wire before after answers = IsUndialed wire before after answers
Reaches (Some address) method target upgrade wire before after answers =
    Chooses (is_too_much (length (text_at address method target upgrade))) (IsUndialed wire before after answers) (Dials (text_at address method target upgrade) upgrade wire before after answers)

-- the next lane stands on this wire, or its loss is to be heard
abbrev pub after_dial : Option ℕ → DialerState → DialerState
after_dial (Some wire) state = record state { numbers = state.numbers ++ (record { lane = state.last + 1; wire = wire }) ∷ []; last = state.last + 1 }
after_dial None state = record state { failed = state.failed ++ (state.last + 1) ∷ []; last = state.last + 1 }

-- an ask on the next lane, which is said if that stands on a wire, whose number is new
abbrev pub Asks : Option Address → Method → List ℕ → Option Upgrade → Bool → ℕ → ℕ → DialerState → DialerState → List Answer → Type 0
Asks address method target upgrade is_said bound bound_after before after answers =
    (wire : Option ℕ) × Reaches address method target upgrade wire before.door after.door answers × (is_said ≡ is_some wire) × IsNewWire bound bound_after wire
    × (after ≡ after_dial wire (record before { door = after.door }))

-- an ask that memory cuts short: a connection that was begun is ended, whose wire is a new one
abbrev pub IsCutShort : ℕ → ℕ → List Answer → Type 0
IsCutShort bound bound_after answers =
    ((answers ≡ []) × (bound_after ≡ bound)) ⊎ ((wire : ℕ) × (answers ≡ connected wire ∷ was_shut wire ∷ []) × IsNewWire bound bound_after (Some wire))

-- ---- what is said on a lane

-- this is done on the lane of this wire, if there is one
abbrev pub DoesOnWire : Option ℕ → (Lane → Lane → List Answer → Type 0) → DoorState → DoorState → List Answer → Type 0
DoesOnWire None Does before after answers = (after ≡ before) × (answers ≡ [])
DoesOnWire (Some wire) Does before after answers = DoesAt wire Does before after answers

-- a call on the lane of this number, which does this there if it stands on a wire
abbrev pub DoesOn : ℕ → (Lane → Lane → List Answer → Type 0) → DialerState → DialerState → List Answer → Type 0
DoesOn lane Does before after answers = DoesOnWire (wire_of lane before.numbers) Does before.door after.door answers × (after ≡ record before { door = after.door })

-- the lane of this number is there, it is live, it is full
abbrev pub is_on : (ℕ → List Lane → Bool) → ℕ → DialerState → Bool
is_on is_at lane state = unwrap_or (option_map (λ wire. is_at wire state.door.lanes) (wire_of lane state.numbers)) false

-- ---- what is heard

-- how long a call may wait: not at all while the loss of a lane is to be heard whose ask failed
abbrev pub patience : ℕ → List ℕ → ℕ
patience wait [] = wait
patience wait (lane ∷ failed) = 0

-- without the lanes that are over
abbrev pub cleared : DialerState → DialerState
cleared state = record state { door = record state.door { lanes = kept state.door.lanes }; numbers = still_there (kept state.door.lanes) state.numbers }

-- A lane is heard at this moment: one whose ask failed is lost, that which failed first. If there is none, the lanes take their turns.
abbrev pub HearsLanes : List ℕ → ℕ → DialerState → DialerState → List Answer → Event → Type 0
HearsLanes (lane ∷ failed) now before after answers heard =
    (heard ≡ event.Lost lane) × (answers ≡ []) × (after ≡ record before { door = record before.door { moment = now }; failed = failed })
HearsLanes [] now before after answers heard =
    (trace : Event) × (turned : DoorState) × HearsTurns now before.door turned answers trace × (heard ≡ on_lane before.numbers trace)
    × (after ≡ record before { door = record turned { moment = now } })

-- one `next` that was handed this wait: one poll, which is handed the same, or 0 if something may be heard at once, and then a lane is heard
pub record HearsDialed (wait : ℕ) (before after : DialerState) (answers : List Answer) (heard : Heard) : Type 0 where
  pub now : ℕ
  pub turns : List Answer
  pub all : answers ≡ polled (time_to_wait wait (kept before.door.lanes)) now ∷ turns
  pub moment : heard.now ≡ max now before.door.moment
  pub hears : HearsLanes before.failed heard.now (cleared before) after turns heard.event

-- one that fails, as poll did
abbrev pub FailsDialed : ℕ → DialerState → DialerState → List Answer → Type 0
FailsDialed wait before after answers = (answers ≡ poll_failed (time_to_wait wait (kept before.door.lanes)) ∷ []) × (after ≡ cleared before)

-- the turns of the lanes are cut short by memory, in which case no lane's ask failed
abbrev pub HaltsLanes : ℕ → DialerState → DialerState → List Answer → Type 0
HaltsLanes now before after answers =
    (begin : ℕ) × (before.failed ≡ []) × Begins before.door begin after.door.named × HaltsAll now begin before.door.lanes after.door.lanes answers
    × (after ≡ record before { door = record before.door { lanes = after.door.lanes; named = after.door.named } })

-- one whose search memory cut short
pub record HaltsDialed (wait : ℕ) (before after : DialerState) (answers : List Answer) : Type 0 where
  pub now : ℕ
  pub turns : List Answer
  pub all : answers ≡ polled (time_to_wait wait (kept before.door.lanes)) now ∷ turns
  pub halts : HaltsLanes (max now before.door.moment) (cleared before) after turns

-- a call that gathers or flushes, and then does this, with the wait that is left
abbrev pub GathersThen : (ℕ → DialerState → List Answer → Type 0) → ℕ → ℕ → DialerState → List Answer → ℕ → Type 0
GathersThen Then wait gathering before answers gathering_after =
    (mid : DoorState) × (wait_after : ℕ) × (first : List Answer) × (more : List Answer) × (answers ≡ first ++ more)
    × Gathers wait gathering before.door mid first gathering_after wait_after × Then wait_after (record before { door = mid }) more

-- one that does this, and then all that waits is written
abbrev pub ThenFlushes : (ℕ → DialerState → DialerState → List Answer → Type 0) → DialerState → ℕ → DialerState → List Answer → Type 0
ThenFlushes Does after wait before answers =
    (done : DialerState) × (first : List Answer) × (last : List Answer) × (answers ≡ first ++ last) × Does wait before done first
    × FlushesDoor done.door after.door last × (after ≡ record done { door = after.door })
