-- What a call of `next` leaves that memory cut short.
use Rattle.std.specs.Prelude.{◌≡◌, ◌⊎◌, ◌<◌, ◌≤◌, ℕ, true, List, [], ◌∷◌, ◌++◌, length, max, Option, None, Some, ⊤}
use Rattle.hw_lanes.specs.declared.http.Request.{Request}
use Rattle.hh_http.specs.Asks.{Asks}
use Rattle.hh_http.specs.Lane as http
use Rattle.hw_door.specs.Traffic.{Answer, polled, accepted, was_shut}
use Rattle.hw_socket.specs.Lane as socket
use Rattle.hw_socket.specs.Reading.{Feeds, Takes, Loses}
use Rattle.hw_socket.specs.declared.vocabulary.SocketRead.TheVariants as read
use Rattle.hw_net.specs.declared.input.Input.{Input}
use Rattle.hw_net.specs.declared.input.Input.TheVariants as input
use Rattle.hw_net.specs.declared.protocol.Protocol.{Protocol}
use Rattle.hw_net.specs.declared.protocol.Protocol.TheVariants.{Http, Response, Socket}
use Rattle.hw_net.specs.declared.protocol.Stage.TheVariants.{Live}
use Rattle.hw_net.specs.Door.{DoorState, Begins, kept, time_to_wait, with_accepted, index_of_first}
use Rattle.hw_net.specs.HttpState.{HttpStateView, room_of as http_room}
use Rattle.hw_net.specs.ResponseState.{ResponseStateView, IsInput, room_of as response_room}
use Rattle.hw_net.specs.Lane.{Lane, says_continue, after_hearing}
use Rattle.hw_net.specs.Lanes.{DoesHere}
use Rattle.hw_net.specs.Trace.{Gives, bytes_of}
use Rattle.hw_net.specs.Walks.{Walks}
use Rattle.hw_net.specs.WebSocketState.{WebSocketState, room_of as socket_room}

-- A lane of requests: its wire was read at most once, and what is held then is what all bytes leave that were read, after the requests that
-- were found in this turn. None was, unless memory was out for a 100 that is still due.
abbrev pub HaltsHttp : ℕ → HttpStateView → HttpStateView → List Answer → Type 0
HaltsHttp wire before after answers =
    (reading : http.Lane) × (got : Option (List ℕ)) × (found : List Request) × Gives wire (http_room reading) answers got
    × ((bytes : List ℕ) (requests : List Request) → Asks bytes requests before.lane.held → Asks (bytes ++ bytes_of got) (requests ++ found) after.lane.held)
    × ((found ≡ []) ⊎ (says_continue after ≡ true))

-- A lane that awaits its response: its wire was read at most once. What that gave is held, and no response was found in it; or the upgrade was, for
-- which memory was out, and which its next turn hears again.
abbrev pub HaltsResponse : ℕ → ResponseStateView → ResponseStateView → List Answer → Type 0
HaltsResponse wire before after answers =
    (got : Option (List ℕ)) × Gives wire (response_room before) answers got × (after.upgrade ≡ before.upgrade)
    × (((after.lane.held ≡ before.lane.held ++ bytes_of got) × (after.concluded ≡ before.concluded) × (after.accepted ≡ before.accepted))
    ⊎ ((after.accepted ≡ true) × IsInput before after answers got input.Upgraded))

-- A WebSocket: its wire was read at most once. It couldn't be fed with what that gave, which is marked, or it was, and its read was out of
-- memory, after which it is gone, or answered that it is gone. So its next turn hears that it is lost.
abbrev pub HaltsSocket : ℕ → WebSocketState → WebSocketState → List Answer → Type 0
HaltsSocket wire before after answers =
    (got : Option (List ℕ)) × Gives wire (socket_room before) answers got
    × ((after ≡ record before { last_read_was_full = true; lost_bytes = true })
    ⊎ ((fed : socket.Lane) × Feeds before.lane (bytes_of got) fed × (Loses fed after.lane ⊎ Takes fed after.lane read.Gone)))

abbrev pub HaltsIn : ℕ → Protocol → Protocol → List Answer → Type 0
HaltsIn wire (Http before) (Http after) answers = HaltsHttp wire before after answers
HaltsIn wire (Response before) (Response after) answers = HaltsResponse wire before after answers
HaltsIn wire (Socket before) (Socket after) answers = HaltsSocket wire before after answers
HaltsIn wire _ _ answers = ⊥

-- A turn of a live lane that memory cut short: nothing is written, and what waits still does, perhaps with a 100 behind it. The lane stays live.
abbrev pub Halts : Lane → Lane → List Answer → Type 0
Halts before after answers =
    (protocol : Protocol) × HaltsIn before.wire before.protocol protocol answers
    × ((after ≡ record before { protocol = protocol }) ⊎ (after ≡ after_hearing protocol before)) × (before.stage ≡ Live)

-- a 100 is to be said
abbrev pub IsDue : Protocol → Type 0
IsDue (Http http_state) = says_continue http_state ≡ true
IsDue (Response response_state) = ⊥
IsDue (Socket websocket_state) = ⊥

-- an input that the same lane gives again
abbrev pub IsLasting : Input → Type 0
IsLasting (input.Refused refusal) = ⊤
IsLasting input.Upgraded = ⊤
IsLasting input.Gone = ⊤
IsLasting _ = ⊥

-- Turns of the lanes of these places, the first first, that memory cut short: those before some place had theirs, in which nothing was
-- heard, that one's was cut short, and the others stand as they were.
abbrev pub HaltsWithin : ℕ → ℕ → ℕ → List Lane → List Lane → List Answer → Type 0
HaltsWithin now begin end before after answers =
    (index : ℕ) × (mid : List Lane) × (turns : List Answer) × (last : List Answer) × (begin ≤ index) × (index < end) × (answers ≡ turns ++ last)
    × Walks now None begin index before mid turns None × DoesHere index Halts mid after last

-- the same of all lanes, those from this number on first
abbrev pub HaltsAll : ℕ → ℕ → List Lane → List Lane → List Answer → Type 0
HaltsAll now from before after answers =
    HaltsWithin now (index_of_first from before) (length before) before after answers
    ⊎ ((mid : List Lane) × (first : List Answer) × (rest : List Answer) × (answers ≡ first ++ rest)
    × Walks now None (index_of_first from before) (length before) before mid first None
    × HaltsWithin now 0 (index_of_first from before) mid after rest)

-- A call that was handed this wait and took a connection for which memory was out: its wire is shut, and all is as it was, but that lanes
-- that were over are forgotten.
abbrev pub TurnsAway : ℕ → DoorState → DoorState → List Answer → Type 0
TurnsAway wait before after answers =
    (now : ℕ) × (wire : ℕ) × (answers ≡ polled (time_to_wait wait (kept before.lanes)) now ∷ accepted (Some wire) ∷ was_shut wire ∷ [])
    × (after ≡ record before { lanes = kept before.lanes })

-- a call that was handed this wait and whose search memory cut short
pub record HaltsHearing (wait : ℕ) (before after : DoorState) (answers : List Answer) : Type 0 where
  pub now : ℕ
  pub wire : Option ℕ
  pub turns : List Answer
  pub begin : ℕ
  pub all : answers ≡ polled (time_to_wait wait (kept before.lanes)) now ∷ accepted wire ∷ turns
  pub begins : Begins before begin after.named
  pub halts : HaltsAll (max now before.moment) begin (with_accepted (max now before.moment) wire (kept before.lanes)) after.lanes turns
  pub from : after.from ≡ before.from
  pub moment : after.moment ≡ before.moment

-- a call of `next` that was out of memory
abbrev pub HaltsNext : ℕ → DoorState → DoorState → List Answer → Type 0
HaltsNext wait before after answers = TurnsAway wait before after answers ⊎ HaltsHearing wait before after answers
