-- A lane that is a WebSocket, and what it hears in one turn.
use Rattle.std.specs.Prelude.{◌≡◌, ◌⊎◌, ◌==◌, ℕ, Bool, true, false, if◌then◌else◌, List, [], length, Option, None, Some, is_some, refl}
use Rattle.std.specs.Coded.{Coded, code_by, coded×, coded_bool}
use Rattle.hw_door.specs.Traffic.{Answer}
use Rattle.hw_socket.specs.Lane.{Lane, fresh_lane, lane_code}
use Rattle.hw_socket.specs.Reading.{Feeds, Takes, Steps}
use Rattle.hw_socket.specs.declared.vocabulary.SocketRead.{SocketRead}
use Rattle.hw_socket.specs.declared.vocabulary.SocketRead.TheVariants as read
use Rattle.hw_socket.specs.declared.vocabulary.SocketSide.{SocketSide}
use Rattle.hw_net.specs.declared.limits.TheConstants.{PIECE}
use Rattle.hw_net.specs.declared.input.Input.{Input}
use Rattle.hw_net.specs.declared.input.Input.TheVariants as input
use Rattle.hw_net.specs.Trace.{Gives, IsAsked, bytes_of, is_full_after}

pub record WebSocketState : Type 0 where
  -- the WebSocket, with the bytes that it was fed and hasn't taken
  pub lane : Lane
  -- all messages that came were heard, so more bytes are read
  pub wants_read : Bool
  -- the last read filled the room that it had, or there was none
  pub last_read_was_full : Bool
  -- bytes that were read are lost, as memory was out
  pub lost_bytes : Bool

abbrev pub websocket_state_code : Coded WebSocketState
websocket_state_code =
    code_by (Lane × (Bool × (Bool × Bool))) (coded× lane_code (coded× coded_bool (coded× coded_bool coded_bool)))
    (λ t. (t.lane, (t.wants_read, (t.last_read_was_full, t.lost_bytes))))
    (λ p. record { lane = p.0; wants_read = p.1.0; last_read_was_full = p.1.1.0; lost_bytes = p.1.1.1 })
    (λ _. refl)

-- the bytes that it was fed and hasn't taken are no whole frame
abbrev pub IsWaiting : Lane → Type 0
IsWaiting lane = Steps lane lane (Some read.NotYet)

-- each message that is whole in the bytes that it was fed was heard: it waits for more, unless it is gone
abbrev pub HasHeardAll : Lane → Type 0
HasHeardAll lane = lane.ending ≡ None → IsWaiting lane

-- what holds of every WebSocket here: one whose wire is read next has heard all that is whole, unless it lost bytes
abbrev pub IsWebSocketState : Lane → Bool → Bool → Type 0
IsWebSocketState lane wants_read lost_bytes = wants_read ≡ true → lost_bytes ≡ false → HasHeardAll lane

-- a new one of this side, which was fed these bytes: what is whole in them is heard before its wire is read
abbrev pub started : SocketSide → List ℕ → WebSocketState
started side bytes = record {
  lane = record (fresh_lane side) { unread = bytes };
  wants_read = length bytes == 0;
  last_read_was_full = true;
  lost_bytes = false;
}

-- nothing is to be heard before more bytes come, and nothing to be written
pub record IsCalm (websocket_state : WebSocketState) : Type 0 where
  pub wants_read : websocket_state.wants_read ≡ true
  pub last_read_was_full : websocket_state.last_read_was_full ≡ false
  pub whole : websocket_state.lost_bytes ≡ false
  pub there : websocket_state.lane.ending ≡ None
  pub waiting : IsWaiting websocket_state.lane
  pub written : websocket_state.lane.out.bytes ≡ []

-- how many bytes are read at once: none while messages may be left that came before
abbrev pub room_of : WebSocketState → ℕ
room_of websocket_state = if websocket_state.wants_read then PIECE else 0

-- the WebSocket was fed with the bytes that were read, and then read once, which gave this
abbrev pub Gets : Lane → Option (List ℕ) → SocketRead → Lane → Type 0
Gets lane got answer next = (is_some got ≡ true) × ((fed : Lane) × Feeds lane (bytes_of got) fed × Takes fed next answer)

-- a read: the WebSocket was fed with the bytes that it gave, and the answer is false if the wire broke
pub record ReadsInto (wire : ℕ) (before after : WebSocketState) (answers : List Answer) (is_whole : Bool) : Type 0 where
  pub got : Option (List ℕ)
  pub read : Gives wire (room_of before) answers got
  pub asked : IsAsked (room_of before) answers
  pub whole : is_whole ≡ is_some got
  pub fed : Feeds before.lane (bytes_of got) after.lane
  pub lost_bytes : after.lost_bytes ≡ before.lost_bytes
  pub full : after.last_read_was_full ≡ is_full_after (room_of before) answers got before.last_read_was_full

-- one read of the WebSocket
abbrev pub Finds : WebSocketState → WebSocketState → Input → Type 0
Finds before after input.Nothing = Takes before.lane after.lane read.NotYet × (after.wants_read ≡ true) × (after.last_read_was_full ≡ before.last_read_was_full)
Finds before after (input.Message bytes) =
    Takes before.lane after.lane (read.Payload bytes) × (after.wants_read ≡ false) × (after.last_read_was_full ≡ before.last_read_was_full)
Finds before after input.Gone = Takes before.lane after.lane read.Gone × (after.wants_read ≡ false) × (after.last_read_was_full ≡ before.last_read_was_full)
Finds before after _ = ⊥

-- What is heard is what a read gives after the bytes that came. It is heard as broken only where its wire broke at a read before which all that is whole was
-- heard, or where it lost bytes, and then the wire isn't read.
abbrev pub IsInput : WebSocketState → WebSocketState → List Answer → Option (List ℕ) → Input → Type 0
IsInput before after answers got input.Nothing =
    Gets before.lane got read.NotYet after.lane × IsAsked (room_of before) answers × (after.wants_read ≡ true)
IsInput before after answers got (input.Request request) = ⊥
IsInput before after answers got (input.Refused refusal) = ⊥
IsInput before after answers got (input.Response status body) = ⊥
IsInput before after answers got input.Upgraded = ⊥
IsInput before after answers got (input.Message bytes) = Gets before.lane got (read.Payload bytes) after.lane × (after.wants_read ≡ false)
IsInput before after answers got input.Broken =
    (((got ≡ None) × HasHeardAll before.lane) ⊎ ((before.lost_bytes ≡ true) × (got ≡ Some []))) × (after.lane ≡ before.lane)
IsInput before after answers got input.Gone = Gets before.lane got read.Gone after.lane × (after.wants_read ≡ false)

-- One turn: the wire is read at most once, the WebSocket is fed with what it gave, and then it is read once. One that lost bytes is heard as
-- broken, and nothing else.
pub record HearsWebSocket (wire : ℕ) (before after : WebSocketState) (answers : List Answer) (heard : Input) : Type 0 where
  pub got : Option (List ℕ)
  pub read : Gives wire (room_of before) answers got
  pub is_input : IsInput before after answers got heard
  pub lost_bytes : after.lost_bytes ≡ before.lost_bytes
  -- whether the last read filled its room is known by this one, if there was one
  pub full : after.last_read_was_full ≡ is_full_after (room_of before) answers got before.last_read_was_full
  pub breaks : before.lost_bytes ≡ true → heard ≡ input.Broken
