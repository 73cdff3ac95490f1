-- What a door does in one call.
use Rattle.std.specs.Prelude.{◌≡◌, ◌==◌, ◌&&◌, ◌⊎◌, ◌<◌, ◌≤◌, ◌+◌, ◌-◌, ◌^◌, ℕ, Bool, false, true, not, nat_le, max, if◌then◌else◌, List, [], ◌∷◌, ◌++◌, filter, take, drop, length, Option, None, Some, position, unwrap_or, option_to_list}
use Rattle.std.specs.List.{list_any}
use Rattle.hw_door.specs.declared.heard.Heard.{Heard}
use Rattle.hw_door.specs.declared.heard.Event.{Event}
use Rattle.hw_door.specs.declared.heard.Event.TheVariants as event
use Rattle.hw_door.specs.Traffic.{Answer, polled, accepted, poll_failed, accept_failed, not_yet, none_ready}
use Rattle.hh_http.specs.Lane.{at_start}
use Rattle.hw_net.specs.declared.limits.TheConstants.{MOST_NAMED}
use Rattle.hw_net.specs.declared.protocol.Protocol.TheVariants.{Http}
use Rattle.hw_net.specs.declared.protocol.Stage.TheVariants.{Live}
use Rattle.hw_net.specs.Parts.{ReactorParts}
use Rattle.hw_net.specs.Lane.{Lane, is_over, is_awake, is_full, wires_of}
use Rattle.hw_net.specs.Saying.{Says}
use Rattle.hw_net.specs.Turn.{Listens, TurnAll, AtLane}

-- the lanes, the number from which on they come first in the next search that begins with no named one, how many searches in a row began
-- with a named one since one heard nothing, and the moment of what was heard last
pub record DoorState : Type 0 where
  pub lanes : List Lane
  pub from : ℕ
  pub named : ℕ
  pub moment : ℕ

abbrev pub state_of : {W : Type 0} → ReactorParts W → DoorState
state_of parts = record { lanes = parts.lanes.items; from = parts.from; named = parts.named; moment = parts.moment }

-- the lane of a wire that was accepted at this moment
abbrev pub new_lane : ℕ → ℕ → Lane
new_lane now wire = record {
  wire = wire;
  since = now;
  protocol = Http (record {
    lane = at_start;
    busy = false;
    has_unparsed = true;
    last_read_was_full = true;
    awaits_continue = false;
    continued = false;
  });
  out = [];
  stage = Live;
  full = None;
}

-- the lanes with that of the wire that was accepted, if one was
abbrev pub with_accepted : ℕ → Option ℕ → List Lane → List Lane
with_accepted now None lanes = lanes
with_accepted now (Some wire) lanes = lanes ++ new_lane now wire ∷ []

-- the lanes that have more to them than that they ended
abbrev pub kept : List Lane → List Lane
kept lanes = filter (λ (lane : Lane). not (is_over lane.stage)) lanes

-- the bound below which all numbers of wires lie didn't fall, and the wire that came, if one did, is the first of its number
abbrev pub IsNumbered : ℕ → ℕ → Option ℕ → Type 0
IsNumbered before now None = before ≤ now
IsNumbered before now (Some wire) = (before ≤ wire) × (wire + 1 ≤ now)

-- each lane that wasn't over is still there, in its place, and at most one came after them, whose number is new
abbrev pub KeepsLanes : ℕ → ℕ → List Lane → List Lane → Type 0
KeepsLanes bound bound_after before after =
    (wire : Option ℕ) × (wires_of after ≡ wires_of (kept before) ++ option_to_list wire) × IsNumbered bound bound_after wire

-- how many lanes come last in the search: those before the first that has the number or a greater one
abbrev pub index_of_first : ℕ → List Lane → ℕ
index_of_first from lanes = unwrap_or (position (λ (lane : Lane). nat_le from lane.wire) lanes) (length lanes)

-- how long the wires wait at most if a call may wait for so long: not at all if something may be heard at once on some lane
abbrev pub time_to_wait : ℕ → List Lane → ℕ
time_to_wait wait lanes = if list_any is_awake lanes then 0 else wait

-- the lane of an event
abbrev pub lane_of : Event → ℕ
lane_of (event.Request lane request) = lane
lane_of (event.Refused lane refusal) = lane
lane_of (event.Bytes lane bytes) = lane
lane_of (event.Response lane status body) = lane
lane_of (event.Upgraded lane) = lane
lane_of (event.Lost lane) = lane
lane_of (event.Drained lane) = lane
lane_of event.Quiet = 0

-- a search begins at this number: that from which on lanes come first, or any other, though only so many times in a row
abbrev pub Begins : DoorState → ℕ → ℕ → Type 0
Begins before begin named = ((begin ≡ before.from) × (named ≡ 0)) ⊎ ((before.named < MOST_NAMED) × (named ≡ before.named + 1))

-- how many in a row began with a named lane after a search that heard this: one that hears nothing begins that count anew, as each lane
-- listened in it or rests
abbrev pub named_after : ℕ → Option Event → ℕ
named_after named None = 0
named_after named (Some heard) = named

-- the same of a search that hears this, if anything
abbrev pub Counts : DoorState → ℕ → ℕ → Option Event → Type 0
Counts before begin named trace = (begun : ℕ) × Begins before begin begun × (named ≡ named_after begun trace)

-- the number after this one: after the last of 64 bits comes 0
abbrev pub number_after : ℕ → ℕ
number_after number = if number == 2 ^ 64 - 1 then 0 else number + 1

-- the number from which on the lanes come first after this was heard: the lane that was heard comes last
abbrev pub next_from : ℕ → Option Event → ℕ
next_from from None = from
next_from from (Some heard) = number_after (lane_of heard)

-- the same after a search: one that began with a named lane leaves it
abbrev pub from_after : ℕ → ℕ → Option Event → ℕ
from_after named from trace = if named == 0 then next_from from trace else from

-- the lanes take their turns at this moment, those from this number on first, and this is heard, if anything is
pub record HearsAll (now : ℕ) (from : ℕ) (before after : List Lane) (answers : List Answer) (heard : Option Event) : Type 0 where
  pub first : List Lane
  pub last : List Lane
  pub trace : Option Event
  pub answers_first : List Answer
  pub answers_last : List Answer
  pub all : answers ≡ answers_first ++ answers_last
  pub order : after ≡ last ++ first
  pub turns_first : TurnAll now None (drop (index_of_first from before) before) first answers_first trace
  pub turns_last : TurnAll now trace (take (index_of_first from before) before) last answers_last heard

-- a wire wasn't read, or gave nothing
abbrev pub IsNothing : ℕ → List Answer → Type 0
IsNothing wire answers = (answers ≡ []) ⊎ (answers ≡ not_yet wire ∷ [])

-- a lane rests at a moment: a turn in which its wire gives nothing would hear nothing and leave it as it is, and it has nothing to write
pub record RestsAt (now : ℕ) (lane : Lane) : Type 0 where
  pub answers : List Answer
  pub nothing : IsNothing lane.wire answers
  pub quiet : Listens now lane lane answers None
  pub silent : Says now lane lane []

-- a lane listens and hears nothing, or it rests and isn't asked
abbrev pub ListensOrRests : ℕ → Lane → Lane → List Answer → Type 0
ListensOrRests now before after answers = Listens now before after answers None ⊎ (RestsAt now before × (after ≡ before) × (answers ≡ []))

-- the same of lanes, the first first
abbrev pub ListenOrRest : ℕ → List Lane → List Lane → List Answer → Type 0
ListenOrRest now [] after answers = (after ≡ []) × (answers ≡ [])
ListenOrRest now (lane ∷ lanes) after answers =
    (next : Lane) × (rest : List Lane) × (first : List Answer) × (more : List Answer)
    × (after ≡ next ∷ rest) × (answers ≡ first ++ more) × ListensOrRests now lane next first × ListenOrRest now lanes rest more

-- Nothing is heard: the lanes take their turns at this moment, those from this number on first, but for some that rest, and then the wires told
-- that none of them has anything to give.
pub record RestsAll (now : ℕ) (from : ℕ) (before after : List Lane) (answers : List Answer) (heard : Option Event) : Type 0 where
  pub first : List Lane
  pub last : List Lane
  pub answers_first : List Answer
  pub answers_last : List Answer
  pub all : answers ≡ answers_first ++ (answers_last ++ none_ready ∷ [])
  pub order : after ≡ last ++ first
  pub unheard : heard ≡ None
  pub parts_first : ListenOrRest now (drop (index_of_first from before) before) first answers_first
  pub parts_last : ListenOrRest now (take (index_of_first from before) before) last answers_last

-- a search: the lanes take their turns, or all that don't rest
abbrev pub Searches : ℕ → ℕ → List Lane → List Lane → List Answer → Option Event → Type 0
Searches now from before after answers heard = HearsAll now from before after answers heard ⊎ RestsAll now from before after answers heard

-- One `next` that was handed this wait: one poll, which is handed the same, or 0 if something may be heard at once, one accept, and then a
-- turn of each lane, from the one whose turn it is, or from any other. Nothing is heard only if each lane was listened to and gave nothing, or
-- rests, and the wires told in the end that none of them has anything to give.
pub record HearsNext (wait : ℕ) (before after : DoorState) (answers : List Answer) (heard : Heard) : Type 0 where
  pub now : ℕ
  pub wire : Option ℕ
  pub turns : List Answer
  pub begin : ℕ
  pub trace : Option Event
  pub all : answers ≡ polled (time_to_wait wait (kept before.lanes)) now ∷ accepted wire ∷ turns
  pub moment : heard.now ≡ max now before.moment
  pub begins : Counts before begin after.named trace
  pub hears : Searches heard.now begin (with_accepted heard.now wire (kept before.lanes)) after.lanes turns trace
  pub event_is : heard.event ≡ unwrap_or trace event.Quiet
  pub from : after.from ≡ from_after after.named before.from trace
  pub later : after.moment ≡ heard.now

-- a call of `next` that was handed this wait and fails: poll failed, or accept after it
abbrev pub FailsNext : ℕ → DoorState → List Answer → Type 0
FailsNext wait before answers =
    (answers ≡ poll_failed (time_to_wait wait (kept before.lanes)) ∷ [])
    ⊎ ((now : ℕ) × (answers ≡ polled (time_to_wait wait (kept before.lanes)) now ∷ accept_failed ∷ []))

-- the lane of this number is full, if there is one
abbrev pub is_full_at : ℕ → List Lane → Bool
is_full_at wire lanes = list_any (λ (lane : Lane). (lane.wire == wire) && is_full lane) lanes

-- a call on the lane of this number, which does this there
abbrev pub DoesAt : ℕ → (Lane → Lane → List Answer → Type 0) → DoorState → DoorState → List Answer → Type 0
DoesAt lane Does before after answers =
    AtLane lane Does before.lanes after.lanes answers × (after.from ≡ before.from) × (after.named ≡ before.named) × (after.moment ≡ before.moment)

-- the turns of all lanes, which end with this event
abbrev pub HearsTurns : ℕ → DoorState → DoorState → List Answer → Event → Type 0
HearsTurns now before after answers heard =
    (trace : Option Event) × (begin : ℕ) × Counts before begin after.named trace × Searches now begin before.lanes after.lanes answers trace
    × (heard ≡ unwrap_or trace event.Quiet) × (after.from ≡ from_after after.named before.from trace) × (after.moment ≡ before.moment)
