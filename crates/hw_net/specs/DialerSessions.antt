-- Sessions of a dialer: its calls since it started, and what they hear, ask and shut, put together.
use Rattle.std.specs.Prelude.{◌≡◌, ◌≢◌, ◌⊎◌, ◌+◌, ◌==◌, ◌&&◌, ◌||◌, ℕ, Bool, true, false, not, max, if◌then◌else◌, List, [], ◌∷◌, ◌++◌, Contains, Option, None, Some, map, option_map, slice_get, unwrap_or, ⊤}
use Rattle.hw_lanes.specs.declared.http.Method.{Method}
use Rattle.hw_door.specs.declared.heard.Address.{Address}
use Rattle.hw_door.specs.declared.heard.Event.{Event}
use Rattle.hw_door.specs.declared.heard.Event.TheVariants as event
use Rattle.hw_door.specs.declared.heard.Given.TheVariants as say
use Rattle.hw_door.specs.declared.heard.Heard.{Heard}
use Rattle.hw_door.specs.declared.heard.Upgrade.{Upgrade}
use Rattle.hw_door.specs.Traffic.{Answer, IsNewWire, polled, read_on, was_shut, written_on}
use Rattle.hw_net.specs.declared.input.Input.{Input}
use Rattle.hw_net.specs.declared.input.Input.TheVariants as input
use Rattle.hw_net.specs.declared.numbers.LaneWire.{LaneWire}
use Rattle.hw_net.specs.declared.protocol.Protocol.{Protocol}
use Rattle.hw_net.specs.declared.protocol.Protocol.TheVariants.{Http, Response, Socket}
use Rattle.hw_net.specs.declared.protocol.Stage.TheVariants.{Lost, Over}
use Rattle.hw_net.specs.Asking.{text_at}
use Rattle.hw_net.specs.Bounds.{IsWithin, has_wire}
use Rattle.hw_net.specs.Chains.{Told, gives, sends}
use Rattle.hw_net.specs.Dialer.{DialerState, IsCutShort, Reaches, after_dial, cleared}
use Rattle.hw_net.specs.Door.{DoorState, DoesAt, HearsTurns, is_full_at, kept, lane_of, time_to_wait}
use Rattle.hw_net.specs.Lane.{Lane, expected_of, is_full, is_live, waits}
use Rattle.hw_net.specs.LaneNumbers.{lane_on, wire_of}
use Rattle.hw_net.specs.ResponseState.{Answers, IsBeginning}
use Rattle.hw_net.specs.Saying.{WritesIfLive}
use Rattle.hw_net.specs.Sessions as door
use Rattle.hw_net.specs.Sessions.{Call, IsCarried, IsGone, IsLostRightly, IsSpoiled, are_about, by_ask, is_end_on, messages_on, sent_on, was_full_on, was_shut_in}
use Rattle.hw_net.specs.Turn.{Sends, Shuts}

-- what is asked on a lane of this number, at the address of this place
pub record DialerAsk : Type 0 where
  pub lane : ℕ
  pub place : ℕ
  pub method : Method
  pub target : List ℕ
  pub upgrade : Option Upgrade

-- a call of a dialer that answered Ok, with what the wires answered in it
pub data DialerCall : Type 0 where
  -- a call that a door has too, on the lane of this number. What it says of lanes it says of their wires: there a lane has the number of its wire
  does : ℕ → Call → DialerCall
  -- this was asked, on this wire if a connection was begun
  asked : DialerAsk → Option ℕ → List Answer → DialerCall
  -- at this moment the loss of this lane was heard, on no wire, as its ask went nowhere
  missed : ℕ → ℕ → List Answer → DialerCall
  -- what was given on a lane that stands on no wire
  idle : Told → DialerCall
  -- an ask that memory cut short: a connection that was begun for it was ended
  cut : List Answer → DialerCall

-- one `next` in which no loss of an ask was to be heard: one poll, and then the turns of the lanes, which hear this on their wires
abbrev pub HearsOnWires : DoorState → DoorState → List Answer → Heard → Type 0
HearsOnWires before after answers what =
    (wait : ℕ) × (now : ℕ) × (turns : List Answer) × (turned : DoorState)
    × (answers ≡ polled (time_to_wait wait (kept before.lanes)) now ∷ turns) × (what.now ≡ max now before.moment)
    × HearsTurns what.now (record before { lanes = kept before.lanes }) turned turns what.event × (after ≡ record turned { moment = what.now })

-- what a call does on wires, and the number of the lane that stands there
abbrev pub DoesOnLane : ℕ → Call → DialerState → DialerState → Type 0
DoesOnLane lane (door.heard what answers) before after =
    (before.failed ≡ []) × (lane ≡ lane_on (lane_of what.event) (cleared before).numbers) × HearsOnWires before.door after.door answers what
    × (after ≡ record (cleared before) { door = after.door })
DoesOnLane lane (door.sent wire bytes text full answers) before after =
    (wire_of lane before.numbers ≡ Some wire) × DoesAt wire (Sends before.door.moment bytes text) before.door after.door answers
    × (full ≡ is_full_at wire after.door.lanes) × (after ≡ record before { door = after.door })
DoesOnLane lane (door.shut wire answers) before after =
    (wire_of lane before.numbers ≡ Some wire) × DoesAt wire (Shuts before.door.moment) before.door after.door answers × (after ≡ record before { door = after.door })
DoesOnLane lane (door.wrote wire answers) before after = DoesAt wire WritesIfLive before.door after.door answers × (after ≡ record before { door = after.door })
DoesOnLane lane (door.replied wire reply answers) before after = ⊥

-- what is given on a lane that stands on no wire: it is shut, or sent a message, to which the answer is that it isn't full
abbrev pub IsIdle : DialerState → Told → Type 0
IsIdle state (gives (say.Shut lane)) = wire_of lane state.numbers ≡ None
IsIdle state (sends (say.Bytes lane bytes text) full) = (wire_of lane state.numbers ≡ None) × (full ≡ false)
IsIdle state _ = ⊥

-- what a call does to a dialer of these addresses, and to the bound below which lie all numbers of wires that came
abbrev pub DoesDialed : List Address → DialerCall → ℕ → ℕ → DialerState → DialerState → Type 0
DoesDialed addresses (does lane call) bound bound_after before after = DoesOnLane lane call before after × (bound_after ≡ bound)
DoesDialed addresses (asked ask wire answers) bound bound_after before after =
    (ask.lane ≡ before.last + 1) × Reaches (slice_get addresses ask.place) ask.method ask.target ask.upgrade wire before.door after.door answers
    × IsNewWire bound bound_after wire × (after ≡ after_dial wire (record before { door = after.door }))
DoesDialed addresses (missed now lane answers) bound bound_after before after =
    (wait : ℕ) × (moment : ℕ) × (failed : List ℕ) × (before.failed ≡ lane ∷ failed) × (answers ≡ polled (time_to_wait wait (kept before.door.lanes)) moment ∷ [])
    × (now ≡ max moment before.door.moment)
    × (after ≡ record (cleared before) { door = record (cleared before).door { moment = now }; failed = failed }) × (bound_after ≡ bound)
DoesDialed addresses (idle told) bound bound_after before after = IsIdle before told × (after ≡ before) × (bound_after ≡ bound)
DoesDialed addresses (cut answers) bound bound_after before after = IsCutShort bound bound_after answers × (after ≡ before)

-- a dialer that asked nothing
abbrev pub at_start : DialerState
at_start = record { door = record { lanes = []; from = 0; named = 0; moment = 0 }; numbers = []; failed = []; last = 0 }

-- all calls of a dialer since it started, the latest first, and how they leave it
abbrev pub DialerSession : List Address → List DialerCall → ℕ → DialerState → Type 0
DialerSession addresses [] bound now = now ≡ at_start
DialerSession addresses (call ∷ calls) bound now =
    (bound_before : ℕ) × (before : DialerState) × DialerSession addresses calls bound_before before × DoesDialed addresses call bound_before bound before now

-- ---- on wires

-- a call as one of a door, on the wires: an ask writes there, and what is done on no wire is nothing
abbrev pub on_wires : DialerCall → Call
on_wires (does lane call) = call
on_wires (asked ask wire answers) = door.wrote (unwrap_or wire 0) answers
on_wires (missed now lane answers) = door.wrote 0 answers
on_wires (idle told) = door.wrote 0 []
on_wires (cut answers) = door.wrote 0 answers

abbrev pub all_on_wires : List DialerCall → List Call
all_on_wires calls = map on_wires calls

-- what the wires answered in a call, and in all, in order
abbrev pub answers_in : DialerCall → List Answer
answers_in call = door.answers_in (on_wires call)

abbrev pub answers_of : List DialerCall → List Answer
answers_of calls = door.answers_of (all_on_wires calls)

-- ---- what was asked on a wire

-- the text of an ask, none if no address stands at its place
abbrev pub text_of : List Address → DialerAsk → List ℕ
text_of addresses ask = unwrap_or (option_map (λ address. text_at address ask.method ask.target ask.upgrade) (slice_get addresses ask.place)) []

-- the text that was asked on a wire
abbrev pub text_on : List Address → ℕ → List DialerCall → List ℕ
text_on addresses wire [] = []
text_on addresses wire (asked ask (Some at) answers ∷ calls) = if at == wire then text_of addresses ask else text_on addresses wire calls
text_on addresses wire (_ ∷ calls) = text_on addresses wire calls

-- the upgrade that was asked for there, if one was
abbrev pub upgrade_on : ℕ → List DialerCall → Option Upgrade
upgrade_on wire [] = None
upgrade_on wire (asked ask (Some at) answers ∷ calls) = if at == wire then ask.upgrade else upgrade_on wire calls
upgrade_on wire (_ ∷ calls) = upgrade_on wire calls

-- the lane that asked there, 0 if none did
abbrev pub lane_asked_on : ℕ → List DialerCall → ℕ
lane_asked_on wire [] = 0
lane_asked_on wire (asked ask (Some at) answers ∷ calls) = if at == wire then ask.lane else lane_asked_on wire calls
lane_asked_on wire (_ ∷ calls) = lane_asked_on wire calls

-- a lane stands on the wire on which it asked, as long as it has one
abbrev pub LanesKeepWires : Type 0
LanesKeepWires =
    (addresses : List Address) (calls : List DialerCall) (bound : ℕ) (now : DialerState) → DialerSession addresses calls bound now
    → (number : LaneWire) → Contains now.numbers number → number.lane ≡ lane_asked_on number.wire calls

-- something is heard on the lane of this wire in this call, sent, or shut
abbrev pub IsOnWire : ℕ → Call → Type 0
IsOnWire wire (door.heard what answers) = (lane_of what.event ≡ wire) × (what.event ≢ event.Quiet)
IsOnWire wire (door.sent at bytes text full answers) = at ≡ wire
IsOnWire wire (door.shut at answers) = at ≡ wire
IsOnWire wire _ = ⊥

-- the lane of which that is told is the one that asked there
abbrev pub LanesAreThoseAsked : Type 0
LanesAreThoseAsked =
    (addresses : List Address) (lane : ℕ) (call : Call) (calls : List DialerCall) (bound : ℕ) (now : DialerState) → DialerSession addresses (does lane call ∷ calls) bound now
    → (wire : ℕ) → IsOnWire wire call → lane ≡ lane_asked_on wire calls

-- What was written on a lane's wire, and then what waits, is the text of its ask. On a lane that became a WebSocket its frames follow. No lane of a dialer
-- waits for requests.
abbrev pub WroteAsk : List Address → List DialerCall → Lane → Protocol → Type 0
WroteAsk addresses calls lane (Http http_state) = ⊥
WroteAsk addresses calls lane (Response response_state) = written_on lane.wire (answers_of calls) ++ waits lane ≡ text_on addresses lane.wire calls
WroteAsk addresses calls lane (Socket websocket_state) =
    (frames : List ℕ) × (written_on lane.wire (answers_of calls) ++ waits lane ≡ text_on addresses lane.wire calls ++ frames)

-- so it is of each lane, also after its wire was shut: what waits then is never written
abbrev pub AsksAreWritten : Type 0
AsksAreWritten =
    (addresses : List Address) (calls : List DialerCall) (bound : ℕ) (now : DialerState) → DialerSession addresses calls bound now
    → (lane : Lane) → Contains now.door.lanes lane → WroteAsk addresses calls lane lane.protocol

-- ---- what came of it

-- this is the response on a wire, or its upgrade
abbrev pub is_answer_on : ℕ → Event → Bool
is_answer_on wire (event.Response at status body) = at == wire
is_answer_on wire (event.Upgraded at) = at == wire
is_answer_on wire _ = false

-- a response was heard on a wire, or its upgrade
abbrev pub is_answered_on : ℕ → List Call → Bool
is_answered_on wire [] = false
is_answered_on wire (door.heard what answers ∷ calls) = is_answer_on wire what.event || is_answered_on wire calls
is_answered_on wire (_ ∷ calls) = is_answered_on wire calls

-- what is heard of the response, where it is one
abbrev pub input_of : Event → Option Input
input_of (event.Response wire status body) = Some (input.Response status body)
input_of (event.Upgraded wire) = Some input.Upgraded
input_of _ = None

-- A response that is heard on a wire is the first, and it is the one with which all bytes begin that were read there. If an upgrade was asked for, it is
-- one exactly if it is a 101 that accepts it.
abbrev pub ResponsesAreGiven : Type 0
ResponsesAreGiven =
    (addresses : List Address) (lane : ℕ) (what : Heard) (answers : List Answer) (calls : List DialerCall) (bound : ℕ) (now : DialerState)
    → DialerSession addresses (does lane (door.heard what answers) ∷ calls) bound now
    → (heard : Input) → input_of what.event ≡ Some heard
    → (is_answered_on (lane_of what.event) (all_on_wires calls) ≡ false)
    × ((rest : List ℕ) × Answers (option_map expected_of (upgrade_on (lane_of what.event) calls))
    (read_on (lane_of what.event) (answers_of (does lane (door.heard what answers) ∷ calls))) rest heard)

-- On a lane of a dialer a response was heard as soon as a whole one was read: none was exactly if it may still come, and then nothing was read there, or the
-- beginning of one. On a lane that became a WebSocket its upgrade was.
abbrev pub AwaitsResponse : List DialerCall → ℕ → Protocol → Type 0
AwaitsResponse calls wire (Http http_state) = ⊥
AwaitsResponse calls wire (Response response_state) =
    (is_answered_on wire (all_on_wires calls) ≡ response_state.concluded)
    × (is_answered_on wire (all_on_wires calls) ≡ false → (read_on wire (answers_of calls) ≡ []) ⊎ IsBeginning (read_on wire (answers_of calls)))
AwaitsResponse calls wire (Socket websocket_state) = is_answered_on wire (all_on_wires calls) ≡ true

-- so it is of each live one: what was read as a response isn't heard only where the lane was lost or shut
abbrev pub ResponsesAreAwaited : Type 0
ResponsesAreAwaited =
    (addresses : List Address) (calls : List DialerCall) (bound : ℕ) (now : DialerState) → DialerSession addresses calls bound now
    → (lane : Lane) → Contains now.door.lanes lane → is_live lane.stage ≡ true → AwaitsResponse calls lane.wire lane.protocol

-- ---- what WebSockets do

-- A lane that became a WebSocket carries one that was opened by its ask. No lane of a dialer waits for requests.
abbrev pub CarriesDialed : List Address → List DialerCall → Lane → Protocol → Type 0
CarriesDialed addresses calls lane (Http http_state) = ⊥
CarriesDialed addresses calls lane (Response response_state) = ⊤
CarriesDialed addresses calls lane (Socket websocket_state) =
    IsCarried (is_live lane.stage) (read_on lane.wire (answers_of calls)) (written_on lane.wire (answers_of calls) ++ waits lane)
    (by_ask (upgrade_on lane.wire calls) (text_on addresses lane.wire calls)) (messages_on lane.wire (all_on_wires calls)) (sent_on lane.wire (all_on_wires calls))
    websocket_state.lane

-- so it is of each lane
abbrev pub DialedSocketsAreCarried : Type 0
DialedSocketsAreCarried =
    (addresses : List Address) (calls : List DialerCall) (bound : ℕ) (now : DialerState) → DialerSession addresses calls bound now
    → (lane : Lane) → Contains now.door.lanes lane → CarriesDialed addresses calls lane lane.protocol

-- ---- how lanes end

-- A lane that is heard as lost is so for one of these causes, as a door's is: a read found its wire's end, and all that is whole was heard; a write failed; it had no
-- whole response for too long; it was full for too long with nothing written; or too much waits on it. Or it is gone with what was read in this call: a response
-- that is none, or not the upgrade that was asked for, or a WebSocket that is gone or spoiled.
abbrev pub DialedLossesHaveCauses : Type 0
DialedLossesHaveCauses =
    (addresses : List Address) (lane : ℕ) (what : Heard) (answers : List Answer) (calls : List DialerCall) (bound bound_after : ℕ) (before after : DialerState)
    → DialerSession addresses calls bound before → DoesDialed addresses (does lane (door.heard what answers)) bound bound_after before after
    → (wire : ℕ) → what.event ≡ event.Lost wire
    → ((x : Lane) × Contains after.door.lanes x × (x.wire ≡ wire) × IsLostRightly what.now (answers_of (does lane (door.heard what answers) ∷ calls)) x)
    ⊎ ((x : Lane) × Contains before.door.lanes x × (x.wire ≡ wire) × (IsGone (read_on wire answers) x.protocol ⊎ IsSpoiled x.protocol))

-- the lanes of asks that went nowhere, and those that were heard as missed, in order
abbrev pub undialed_in : List DialerCall → List ℕ
undialed_in [] = []
undialed_in (asked ask None answers ∷ calls) = undialed_in calls ++ ask.lane ∷ []
undialed_in (_ ∷ calls) = undialed_in calls

abbrev pub missed_in : List DialerCall → List ℕ
missed_in [] = []
missed_in (missed now lane answers ∷ calls) = missed_in calls ++ lane ∷ []
missed_in (_ ∷ calls) = missed_in calls

-- a lane is missed only if its ask went nowhere, once, and in the order of the asks
abbrev pub UndialedAreMissed : Type 0
UndialedAreMissed =
    (addresses : List Address) (calls : List DialerCall) (bound : ℕ) (now : DialerState) → DialerSession addresses calls bound now
    → undialed_in calls ≡ missed_in calls ++ now.failed

-- the loss of the lane on a wire was heard, or the caller shut it
abbrev pub is_done_on : ℕ → List Call → Bool
is_done_on wire [] = false
is_done_on wire (door.heard what answers ∷ calls) = is_end_on wire what.event || is_done_on wire calls
is_done_on wire (door.shut at answers ∷ calls) = (at == wire) || is_done_on wire calls
is_done_on wire (_ ∷ calls) = is_done_on wire calls

-- since it asked on a wire, the loss of the lane there was heard
abbrev pub is_lost_on : ℕ → List DialerCall → Bool
is_lost_on wire [] = false
is_lost_on wire (does lane (door.heard what answers) ∷ calls) = is_end_on wire what.event || is_lost_on wire calls
is_lost_on wire (asked ask (Some at) answers ∷ calls) = not (at == wire) && is_lost_on wire calls
is_lost_on wire (_ ∷ calls) = is_lost_on wire calls

-- since then the caller shut it
abbrev pub is_shut_on : ℕ → List DialerCall → Bool
is_shut_on wire [] = false
is_shut_on wire (does lane (door.shut at answers) ∷ calls) = (at == wire) || is_shut_on wire calls
is_shut_on wire (asked ask (Some at) answers ∷ calls) = not (at == wire) && is_shut_on wire calls
is_shut_on wire (_ ∷ calls) = is_shut_on wire calls

-- Nothing is heard of a lane once its loss was. Once the caller shut it nothing is but its loss, and that only where its wire had been shut.
abbrev pub NothingIsHeardAfter : Type 0
NothingIsHeardAfter =
    (addresses : List Address) (lane : ℕ) (what : Heard) (answers : List Answer) (calls : List DialerCall) (bound : ℕ) (now : DialerState)
    → DialerSession addresses (does lane (door.heard what answers) ∷ calls) bound now
    → (wire : ℕ) → IsOnWire wire (door.heard what answers)
    → (is_lost_on wire calls ≡ false)
    × (is_shut_on wire calls ≡ true → (what.event ≡ event.Lost wire) × (was_shut_in wire (answers_of calls) ≡ true))

-- the call is an ask that memory cut short
abbrev pub is_cut : DialerCall → Bool
is_cut (cut answers) = true
is_cut _ = false

-- a wire that is shut in a call is that of a lane that is done, or is still to be heard as lost, or that of an ask that memory cut short
abbrev pub DialedWiresAreShutForACause : Type 0
DialedWiresAreShutForACause =
    (addresses : List Address) (call : DialerCall) (calls : List DialerCall) (bound : ℕ) (now : DialerState) → DialerSession addresses (call ∷ calls) bound now
    → (wire : ℕ) → was_shut_in wire (answers_in call) ≡ true → is_cut call ≡ false
    → (lane : Lane) × Contains now.door.lanes lane × (lane.wire ≡ wire)
    × ((lane.stage ≡ Lost) ⊎ ((lane.stage ≡ Over) × (is_done_on wire (all_on_wires (call ∷ calls)) ≡ true)))

-- once a wire was shut no answer is about it
abbrev pub DialedWiresAreShutOnce : Type 0
DialedWiresAreShutOnce =
    (addresses : List Address) (calls : List DialerCall) (bound : ℕ) (now : DialerState) → DialerSession addresses calls bound now
    → (wire : ℕ) (before after : List Answer) → answers_of calls ≡ before ++ was_shut wire ∷ after
    → (was_shut_in wire before ≡ false) × (are_about wire after ≡ false)

-- a lane of the state has its wire exactly if that wasn't shut
abbrev pub DialedLanesHaveWires : Type 0
DialedLanesHaveWires =
    (addresses : List Address) (calls : List DialerCall) (bound : ℕ) (now : DialerState) → DialerSession addresses calls bound now
    → (lane : Lane) → Contains now.door.lanes lane → was_shut_in lane.wire (answers_of calls) ≡ not (has_wire lane.stage)

-- no more waits on a lane than may, unless its wire was shut
abbrev pub DialedLanesAreBounded : Type 0
DialedLanesAreBounded =
    (addresses : List Address) (calls : List DialerCall) (bound : ℕ) (now : DialerState) → DialerSession addresses calls bound now
    → (lane : Lane) → Contains now.door.lanes lane → IsWithin lane

-- each live lane is full exactly if that was told last
abbrev pub DialedFullnessIsTold : Type 0
DialedFullnessIsTold =
    (addresses : List Address) (calls : List DialerCall) (bound : ℕ) (now : DialerState) → DialerSession addresses calls bound now
    → (lane : Lane) → Contains now.door.lanes lane → is_live lane.stage ≡ true → is_full lane ≡ was_full_on lane.wire (all_on_wires calls)

-- and a lane is heard as drained only if it was
abbrev pub DialedDrainedWereFull : Type 0
DialedDrainedWereFull =
    (addresses : List Address) (lane : ℕ) (what : Heard) (answers : List Answer) (calls : List DialerCall) (bound : ℕ) (now : DialerState)
    → DialerSession addresses (does lane (door.heard what answers) ∷ calls) bound now
    → (wire : ℕ) → what.event ≡ event.Drained wire → was_full_on wire (all_on_wires calls) ≡ true
