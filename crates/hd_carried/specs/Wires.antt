-- What passes on the wires of a server: from the bytes that are read to those that are written.
use Rattle.std.specs.Prelude.{◌≡◌, ◌⊎◌, ◌==◌, ℕ, Bool, true, if◌then◌else◌, List, [], ◌∷◌, ◌++◌, flat_map, Option, Contains}
use Rattle.std.specs.List.{list_all}
use Rattle.hd_calls.specs.Hubs.{Hub}
use Rattle.hw_lanes.specs.declared.http.Reply.{Reply}
use Rattle.hw_lanes.specs.declared.http.Request.{Request}
use Rattle.hh_http.specs.Asks.{Asks}
use Rattle.hw_socket.specs.Calls as socket_calls
use Rattle.hw_socket.specs.Lane as socket
use Rattle.hw_socket.specs.Sending.{Sent}
use Rattle.hw_socket.specs.Streams.{AreLegal, ClosesAs, Frame, messages, stream}
use Rattle.hw_socket.specs.declared.vocabulary.SocketSide.TheVariants as side
use Rattle.hw_door.specs.declared.heard.Given.{Given}
use Rattle.hw_door.specs.declared.heard.Given.TheVariants as give
use Rattle.hw_door.specs.declared.heard.Heard.{Heard}
use Rattle.hw_door.specs.DoorCalls.{DoorCall, full_in, given_in, heard_in}
use Rattle.hw_door.specs.Traffic.{Answer, read_on, written_on}
use Rattle.hw_net.specs.declared.door.NetDoor.{NetDoor}
use Rattle.hw_net.specs.declared.protocol.Protocol.{Protocol}
use Rattle.hw_net.specs.declared.protocol.Protocol.TheVariants.{Http, Response, Socket}
use Rattle.hw_net.specs.Chains.{is_steady, told_in, told_in_all}
use Rattle.hw_net.specs.Door.{state_of}
use Rattle.hw_net.specs.Lane.{Lane, is_live, waits}
use Rattle.hw_net.specs.Sessions.{AreTextsOf, Call, IsCarried, Session, answers_of, by_reply, continue_of, message_on, refusal_on, request_on, sent_on}
use Rattle.hw_net.specs.Trace.{Tells}
use Rattle.hd_server.specs.Plans.{Setup}
use Rattle.hd_server.specs.Serving.{ServeEnd, ServesOn, is_cut}
use Rattle.hd_carried.specs.Answered.{HasAnswered, IsStarted}

-- ---- what was heard on a lane, and given

-- the requests, the messages, and the door's own replies to what is no request
abbrev pub requests_among : ℕ → List Heard → List Request
requests_among lane heard = flat_map (λ (e : Heard). request_on lane e.event) heard

abbrev pub messages_among : ℕ → List Heard → List (List ℕ)
messages_among lane heard = flat_map (λ (e : Heard). message_on lane e.event) heard

abbrev pub refusals_among : ℕ → List Heard → List Reply
refusals_among lane heard = flat_map (λ (e : Heard). refusal_on lane e.event) heard

-- the replies that were given, in order
abbrev pub reply_of : ℕ → Given → List Reply
reply_of lane (give.Reply at reply) = if at == lane then reply ∷ [] else []
reply_of lane _ = []

abbrev pub replies_among : ℕ → List Given → List Reply
replies_among lane given = flat_map (reply_of lane) given

-- the messages that were given since the last reply, where these were before: on a WebSocket those since its upgrade
abbrev pub after_given : ℕ → Given → List Sent → List Sent
after_given lane (give.Reply at reply) sent = if at == lane then [] else sent
after_given lane (give.Bytes at bytes text) sent = if at == lane then sent ++ record { is_text = text; bytes = bytes } ∷ [] else sent
after_given lane _ sent = sent

abbrev pub sent_after : ℕ → List Sent → List Given → List Sent
sent_after lane sent [] = sent
sent_after lane sent (word ∷ given) = sent_after lane (after_given lane word sent) given

-- ---- what passed on a wire

-- A WebSocket was fed with what the requests leave of the bytes read, and then with all others, and its payloads are the messages heard. The bytes written, or
-- that wait, are the texts of the replies and then frames, of which the messages are those that were given, in order, but for those from a text on that was none;
-- a close frame is the last, and there is one only where it is gone.
pub record IsFramed (live : Bool) (came wrote : List ℕ) (requests : List Request) (payloads : List (List ℕ)) (given : List Sent) (replies : List Reply) (now : socket.Lane) : Type 0 where
  pub carried : IsCarried live came wrote (by_reply requests replies) payloads given now
  pub frames : List Frame
  pub legal : AreLegal frames
  pub took : messages frames ≡ socket_calls.said carried.calls
  pub closes : ClosesAs now.ending (socket_calls.is_shut carried.calls) frames
  pub wrote_frames : wrote ≡ carried.texts ++ stream side.Server 0 frames

-- By what a lane speaks: on one of requests these are all bytes read, but for what is held, and the bytes written, or that wait, are the texts of the
-- replies, before each of which one 100 may stand, and one after them, if it was said for the request that comes or waits for its reply. No lane of a door
-- awaits a response.
abbrev pub Passes : Protocol → Bool → List ℕ → List ℕ → List Request → List (List ℕ) → List Sent → List Reply → Type 0
Passes (Http http_state) live came wrote requests payloads given replies =
    Asks came requests http_state.lane.held
    × ((texts : List ℕ) × (continued : Bool) × AreTextsOf replies texts × (continued ≡ true → http_state.continued ≡ true) × (wrote ≡ texts ++ continue_of continued))
Passes (Response response_state) live came wrote requests payloads given replies = ⊥
Passes (Socket websocket_state) live came wrote requests payloads given replies =
    IsFramed live came wrote requests payloads given replies websocket_state.lane

-- the messages that were sent on a WebSocket are first those given while its lane went on, and there are no others if that is live
abbrev pub AreSentFirst : Protocol → Bool → List Sent → List Sent → Type 0
AreSentFirst (Http http_state) live sent given = Unit {0}
AreSentFirst (Response response_state) live sent given = Unit {0}
AreSentFirst (Socket websocket_state) live sent given = (late : List Sent) × (sent ≡ given ++ late) × (live ≡ true → late ≡ [])

-- What passed on the wire of a lane in this session of its door, whose server heard these and gave this: all replies given there were said, but for the last
-- if the lane wasn't live any more, and then the door's own; and all messages were written, or wait, that were given while the lane went on.
pub record IsServedOn (heard : List Heard) (given : List Given) (all : List Call) (lane : Lane) : Type 0 where
  pub said : List Reply
  pub unsaid : List Reply
  pub replies : replies_among lane.wire given ≡ said ++ unsaid
  pub few : (unsaid ≡ []) ⊎ ((reply : Reply) × (unsaid ≡ reply ∷ []))
  pub live : is_live lane.stage ≡ true → (unsaid ≡ []) × (refusals_among lane.wire heard ≡ [])
  pub sent : AreSentFirst lane.protocol (is_live lane.stage) (sent_after lane.wire [] given) (sent_on lane.wire all)
  pub passes : Passes lane.protocol (is_live lane.stage) (read_on lane.wire (answers_of all)) (written_on lane.wire (answers_of all) ++ waits lane)
      (requests_among lane.wire heard) (messages_among lane.wire heard) (sent_on lane.wire all) (said ++ refusals_among lane.wire heard)

-- these calls tell nothing, and none of `next` failed among them
abbrev pub TellNothing : List DoorCall → Type 0
TellNothing calls = (told_in calls ≡ []) × (list_all is_steady calls ≡ true)

-- After these calls of a door: they are a session, in which the same was heard and given, and whose answers are what the wires told, if they tell; and so it
-- passed on each lane.
abbrev pub IsServed : {W : Type 0} → (W → Option (List Answer)) → NetDoor W → NetDoor W → List DoorCall → Type 0
IsServed trace start now calls =
    (all : List Call) × (bound : ℕ) × Session all bound (state_of now) × (told_in_all all ≡ told_in calls)
    × Tells (trace start.wires) (trace now.wires) (answers_of all)
    × ((lane : Lane) → Contains (state_of now).lanes lane → IsServedOn (heard_in calls) (given_in calls) all lane)

-- From bytes to bytes: a server that did nothing before, over a door that was just started, answered what it heard there; and so it is on the wires of the
-- door after each of its calls, and at the end, unless a call of `next` failed: after the last of these calls, and after others that tell nothing, as
-- one that was out of memory and a flush do.
abbrev pub BytesAreServed : {W : Type 0} → (NetDoor W → List DoorCall → NetDoor W → Type 0) → (W → Option (List Answer)) → Type 0 → Type 0
BytesAreServed {W} Goes trace Job =
    (hub : Hub Job) (s : Setup) (end : ServeEnd) (calls rest : List DoorCall) (start now : NetDoor W) → IsStarted start → Goes start (calls ++ rest) now
    → ServesOn hub s end (λ after. Unit {0}) (λ after. Unit {0}) [] (heard_in calls) calls
    → HasAnswered hub s (is_cut end) (heard_in calls) (given_in calls) (full_in calls)
    × ((first more : List DoorCall) (mid : NetDoor W) → calls ≡ first ++ more → Goes start first mid → IsServed trace start mid first)
    × (TellNothing rest → IsServed trace start now calls)
