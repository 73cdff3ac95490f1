-- The numbers of a dialer's lanes, which aren't those of their wires, as a lane whose ask failed stands on none.
use Rattle.std.specs.Prelude.{◌==◌, ℕ, List, map, find, filter, Option, option_map, unwrap_or}
use Rattle.hw_door.specs.declared.heard.Event.{Event}
use Rattle.hw_door.specs.declared.heard.Event.TheVariants as event
use Rattle.hw_net.specs.declared.numbers.LaneWire.{LaneWire}
use Rattle.hw_net.specs.Chains.{is_there}
use Rattle.hw_net.specs.Door.{lane_of}
use Rattle.hw_net.specs.Lane.{Lane}

-- the lanes, and the wires that they stand on, each in order
abbrev pub lanes_in : List LaneWire → List ℕ
lanes_in numbers = map (λ (number : LaneWire). number.lane) numbers

abbrev pub wires_in : List LaneWire → List ℕ
wires_in numbers = map (λ (number : LaneWire). number.wire) numbers

-- the wire that a lane stands on, if it stands on one
abbrev pub wire_of : ℕ → List LaneWire → Option ℕ
wire_of lane numbers = option_map (λ (number : LaneWire). number.wire) (find (λ (number : LaneWire). number.lane == lane) numbers)

-- the lane on a wire, 0 if there is none
abbrev pub lane_on : ℕ → List LaneWire → ℕ
lane_on wire numbers = unwrap_or (option_map (λ (number : LaneWire). number.lane) (find (λ (number : LaneWire). number.wire == wire) numbers)) 0

-- those whose wires are among these lanes'
abbrev pub still_there : List Lane → List LaneWire → List LaneWire
still_there lanes numbers = filter (λ (number : LaneWire). is_there number.wire lanes) numbers

-- the same event on another lane
abbrev pub with_lane : ℕ → Event → Event
with_lane lane (event.Request at request) = event.Request lane request
with_lane lane (event.Refused at refusal) = event.Refused lane refusal
with_lane lane (event.Bytes at bytes) = event.Bytes lane bytes
with_lane lane (event.Response at status body) = event.Response lane status body
with_lane lane (event.Upgraded at) = event.Upgraded lane
with_lane lane (event.Lost at) = event.Lost lane
with_lane lane (event.Drained at) = event.Drained lane
with_lane lane event.Quiet = event.Quiet

-- what was heard on a wire, as it is heard on its lane
abbrev pub on_lane : List LaneWire → Event → Event
on_lane numbers heard = with_lane (lane_on (lane_of heard) numbers) heard
