-- Sessions of a door: its calls since it started, and what they hear, say and shut, put together.
use Rattle.std.specs.Prelude.{◌≡◌, ◌⊎◌, ◌==◌, ◌&&◌, ◌||◌, ℕ, Bool, true, false, not, if◌then◌else◌, List, [], ◌∷◌, ◌++◌, length, Contains, Option, None, Some, option_map, unwrap_or, ⊤}
use Rattle.hw_lanes.specs.declared.http.Refusal.{Refusal}
use Rattle.hw_lanes.specs.declared.http.Reply.{Reply}
use Rattle.hw_lanes.specs.declared.http.Request.{Request}
use Rattle.hh_http.specs.Asks.{Asks, request_grammar}
use Rattle.hh_http.specs.Messages.{Refuses}
use Rattle.hh_http.specs.Texts.{continue_text, reply_text}
use Rattle.hw_door.specs.declared.heard.Event.{Event}
use Rattle.hw_door.specs.declared.heard.Event.TheVariants as event
use Rattle.hw_door.specs.declared.heard.Heard.{Heard}
use Rattle.hw_door.specs.declared.heard.Upgrade.{Upgrade}
use Rattle.hw_door.specs.Traffic.{Answer, accepted, bytes_in, not_yet, ended, read_failed, bytes_out, write_failed, was_shut, read_on, written_on}
use Rattle.hw_socket.specs.Calls as socket_calls
use Rattle.hw_socket.specs.Lane as socket
use Rattle.hw_socket.specs.Reading.{Feeds, Takes}
use Rattle.hw_socket.specs.Sending.{Sent}
use Rattle.hw_socket.specs.declared.vocabulary.Ending.TheVariants.{BadText}
use Rattle.hw_socket.specs.declared.vocabulary.SocketRead.TheVariants as read
use Rattle.hw_socket.specs.declared.vocabulary.SocketSide.{SocketSide}
use Rattle.hw_socket.specs.declared.vocabulary.SocketSide.TheVariants as side
use Rattle.hw_net.specs.declared.input.Input.TheVariants.{Upgraded}
use Rattle.hw_net.specs.declared.limits.TheConstants.{SWITCHING}
use Rattle.hw_net.specs.declared.protocol.Stage.TheVariants.{Lost, Over}
use Rattle.hw_net.specs.declared.protocol.Protocol.{Protocol}
use Rattle.hw_net.specs.declared.protocol.Protocol.TheVariants.{Http, Response, Socket}
use Rattle.hw_net.specs.Bounds.{has_wire}
use Rattle.hw_net.specs.ResponseState.{Answers, Fails}
use Rattle.hw_net.specs.Door.{DoorState, HearsNext, KeepsLanes, DoesAt, is_full_at}
use Rattle.hw_net.specs.Flushing.{FlushesDoor, HearsGathered}
use Rattle.hw_net.specs.Lane.{Lane, waits, expected_of, is_full, is_live, refusal_of, is_overdue, is_stalled}
use Rattle.hw_net.specs.Saying.{WritesIfLive, is_too_much}
use Rattle.hw_net.specs.Turn.{Replies, Sends, Shuts}
use Rattle.hw_net.specs.WebSocketState.{HasHeardAll}

-- a call that answered Ok, with what the wires answered in it
pub data Call : Type 0 where
  heard : Heard → List Answer → Call
  replied : ℕ → Reply → List Answer → Call
  sent : ℕ → List ℕ → Bool → Bool → List Answer → Call
  shut : ℕ → List Answer → Call
  -- what waited on this lane was written: a call of `flush`, and one of `next` that flushes first, are several of these
  wrote : ℕ → List Answer → Call

-- what a call does to a door, and to the bound below which lie all numbers of wires that came
abbrev pub Does : Call → ℕ → ℕ → DoorState → DoorState → Type 0
Does (heard what answers) bound bound_after before after =
    (wait : ℕ) × HearsNext wait before after answers what × KeepsLanes bound bound_after before.lanes after.lanes
Does (replied lane reply answers) bound bound_after before after =
    DoesAt lane (Replies before.moment reply) before after answers × (bound_after ≡ bound)
Does (sent lane bytes text full answers) bound bound_after before after =
    DoesAt lane (Sends before.moment bytes text) before after answers × (full ≡ is_full_at lane after.lanes) × (bound_after ≡ bound)
Does (shut lane answers) bound bound_after before after =
    DoesAt lane (Shuts before.moment) before after answers × (bound_after ≡ bound)
Does (wrote lane answers) bound bound_after before after =
    DoesAt lane WritesIfLive before after answers × (bound_after ≡ bound)

-- all calls of a door since it started, the latest first, and how they leave it
abbrev pub Session : List Call → ℕ → DoorState → Type 0
Session [] bound now = now ≡ record { lanes = []; from = 0; named = 0; moment = 0 }
Session (call ∷ calls) bound now =
    (bound_before : ℕ) × (before : DoorState) × Session calls bound_before before × Does call bound_before bound before now

-- ---- what the wires answered

abbrev pub answers_in : Call → List Answer
answers_in (heard what answers) = answers
answers_in (replied lane reply answers) = answers
answers_in (sent lane bytes text full answers) = answers
answers_in (shut lane answers) = answers
answers_in (wrote lane answers) = answers

-- in all calls, in order
abbrev pub answers_of : List Call → List Answer
answers_of [] = []
answers_of (call ∷ calls) = answers_of calls ++ answers_in call

-- the answer is about this wire
abbrev pub is_about : ℕ → Answer → Bool
is_about wire (bytes_in at bytes) = at == wire
is_about wire (not_yet at) = at == wire
is_about wire (ended at) = at == wire
is_about wire (read_failed at) = at == wire
is_about wire (bytes_out at bytes) = at == wire
is_about wire (write_failed at) = at == wire
is_about wire (was_shut at) = at == wire
is_about wire _ = false

-- some answer is
abbrev pub are_about : ℕ → List Answer → Bool
are_about wire [] = false
are_about wire (answer ∷ answers) = is_about wire answer || are_about wire answers

-- a wire of this number came
abbrev pub came_in : ℕ → List Answer → Bool
came_in wire [] = false
came_in wire (accepted (Some at) ∷ answers) = (at == wire) || came_in wire answers
came_in wire (answer ∷ answers) = came_in wire answers

-- the wire was shut
abbrev pub was_shut_in : ℕ → List Answer → Bool
was_shut_in wire [] = false
was_shut_in wire (was_shut at ∷ answers) = (at == wire) || was_shut_in wire answers
was_shut_in wire (answer ∷ answers) = was_shut_in wire answers

-- it ended, or a read on it failed
abbrev pub ended_in : ℕ → List Answer → Bool
ended_in wire [] = false
ended_in wire (ended at ∷ answers) = (at == wire) || ended_in wire answers
ended_in wire (read_failed at ∷ answers) = (at == wire) || ended_in wire answers
ended_in wire (answer ∷ answers) = ended_in wire answers

-- a write on it failed
abbrev pub failed_in : ℕ → List Answer → Bool
failed_in wire [] = false
failed_in wire (write_failed at ∷ answers) = (at == wire) || failed_in wire answers
failed_in wire (answer ∷ answers) = failed_in wire answers

-- ---- what waits and is written later

-- each of these calls writes on one lane what waits there
abbrev pub AreWrites : List Call → Type 0
AreWrites [] = ⊤
AreWrites (wrote lane answers ∷ calls) = AreWrites calls
AreWrites (_ ∷ calls) = ⊥

-- a flush is such calls
abbrev pub FlushesAreCalls : Type 0
FlushesAreCalls =
    (calls : List Call) (bound : ℕ) (before after : DoorState) (answers : List Answer) → Session calls bound before → FlushesDoor before after answers
    → (writes : List Call) × AreWrites writes × Session (writes ++ calls) bound after × (answers_of (writes ++ calls) ≡ answers_of calls ++ answers)

-- a call of `next` is such calls, or none, and then one that hears this
abbrev pub NextIsCalls : Type 0
NextIsCalls =
    (calls : List Call) (bound bound_after wait gathering gathering_after : ℕ) (before after : DoorState) (answers : List Answer) (what : Heard)
    → Session calls bound before → HearsGathered wait gathering before after answers what gathering_after → KeepsLanes bound bound_after before.lanes after.lanes
    → (writes : List Call) × (last : List Answer) × AreWrites writes × Session (heard what last ∷ (writes ++ calls)) bound_after after
    × (answers_of (heard what last ∷ (writes ++ calls)) ≡ answers_of calls ++ answers)

-- ---- what was heard on a lane

-- the request that this is, if it is one of this lane
abbrev pub request_on : ℕ → Event → List Request
request_on lane (event.Request at request) = if at == lane then request ∷ [] else []
request_on lane _ = []

-- the requests that were heard on a lane, in order
abbrev pub requests_on : ℕ → List Call → List Request
requests_on lane [] = []
requests_on lane (heard what answers ∷ calls) = requests_on lane calls ++ request_on lane what.event
requests_on lane (_ ∷ calls) = requests_on lane calls

-- The requests heard on a lane are those of all bytes read on its wire, and what is held is what these leave. On a lane that became a
-- WebSocket they are those of a first part of the bytes. No lane of a door awaits a response.
abbrev pub HeardRequests : List Call → ℕ → Protocol → Type 0
HeardRequests calls wire (Http http_state) = Asks (read_on wire (answers_of calls)) (requests_on wire calls) http_state.lane.held
HeardRequests calls wire (Response response_state) = ⊥
HeardRequests calls wire (Socket websocket_state) =
    (bytes : List ℕ) × (rest : List ℕ) × (more : List ℕ)
    × (read_on wire (answers_of calls) ≡ bytes ++ more) × Asks bytes (requests_on wire calls) rest

-- so it is of each lane
abbrev pub RequestsAreAsked : Type 0
RequestsAreAsked =
    (calls : List Call) (bound : ℕ) (now : DoorState) → Session calls bound now
    → (lane : Lane) → Contains now.lanes lane → HeardRequests calls lane.wire lane.protocol

-- what is refused on a lane is what the requests heard there leave of all bytes read on its wire
abbrev pub RefusalsAreDeserved : Type 0
RefusalsAreDeserved =
    (what : Heard) (answers : List Answer) (calls : List Call) (bound : ℕ) (now : DoorState) → Session (heard what answers ∷ calls) bound now
    → (lane : ℕ) (refusal : Refusal) → what.event ≡ event.Refused lane refusal
    → (rest : List ℕ) × Asks (read_on lane (answers_of (heard what answers ∷ calls))) (requests_on lane calls) rest × Refuses request_grammar rest refusal

-- ---- what was said on a lane

abbrev pub is_request_on : ℕ → Event → Bool
is_request_on lane (event.Request at request) = at == lane
is_request_on lane _ = false

-- A reply is owed on a lane: a request was heard there, and since then no reply was given, the caller didn't shut the lane, and its wire
-- wasn't shut, not even in the call that heard the request.
abbrev pub is_owed_on : ℕ → List Call → Bool
is_owed_on lane [] = false
is_owed_on lane (heard what answers ∷ calls) = not (was_shut_in lane answers) && (is_request_on lane what.event || is_owed_on lane calls)
is_owed_on lane (replied at reply answers ∷ calls) = not (at == lane) && is_owed_on lane calls
is_owed_on lane (sent at bytes text full answers ∷ calls) = is_owed_on lane calls
is_owed_on lane (shut at answers ∷ calls) = not (at == lane) && is_owed_on lane calls
is_owed_on lane (wrote at answers ∷ calls) = not (was_shut_in lane answers) && is_owed_on lane calls

-- the door's own reply to what is no request, if this is one of this lane
abbrev pub refusal_on : ℕ → Event → List Reply
refusal_on lane (event.Refused at refusal) = if at == lane then refusal_of refusal ∷ [] else []
refusal_on lane _ = []

-- the replies that were said on a lane, in order: those that were given while one was owed, and the door's own
abbrev pub replies_on : ℕ → List Call → List Reply
replies_on lane [] = []
replies_on lane (heard what answers ∷ calls) = replies_on lane calls ++ refusal_on lane what.event
replies_on lane (replied at reply answers ∷ calls) =
    replies_on lane calls ++ (if (at == lane) && is_owed_on lane calls then reply ∷ [] else [])
replies_on lane (_ ∷ calls) = replies_on lane calls

-- the text of a 100, if one is said
abbrev pub continue_of : Bool → List ℕ
continue_of continued = if continued then continue_text else []

-- these bytes are the texts of the replies one after the other, before each of which one 100 may stand
abbrev pub AreTextsOf : List Reply → List ℕ → Type 0
AreTextsOf [] bytes = bytes ≡ []
AreTextsOf (reply ∷ replies) bytes =
    (continued : Bool) × (rest : List ℕ) × (bytes ≡ continue_of continued ++ (reply_text reply ++ rest)) × AreTextsOf replies rest

-- What was written on a lane's wire, and then what waits, are the texts of the replies said there, before each of which one 100 may
-- stand, and then one for the request that comes or waits for its reply, if it was said. On a lane that became a WebSocket the last reply is the
-- upgrade, and its frames follow.
abbrev pub WroteReplies : List Call → Lane → Protocol → Type 0
WroteReplies calls lane (Http http_state) =
    (texts : List ℕ) × (continued : Bool) × AreTextsOf (replies_on lane.wire calls) texts × (continued ≡ true → http_state.continued ≡ true)
    × (written_on lane.wire (answers_of calls) ++ waits lane ≡ texts ++ continue_of continued)
WroteReplies calls lane (Response response_state) = ⊥
WroteReplies calls lane (Socket websocket_state) =
    (replies : List Reply) × (upgrade : Reply) × (texts : List ℕ) × (frames : List ℕ)
    × (replies_on lane.wire calls ≡ replies ++ upgrade ∷ []) × (upgrade.status ≡ SWITCHING) × AreTextsOf (replies_on lane.wire calls) texts
    × (written_on lane.wire (answers_of calls) ++ waits lane ≡ texts ++ frames)

-- so it is of each lane, also after its wire was shut: what waits then is never written
abbrev pub RepliesAreWritten : Type 0
RepliesAreWritten =
    (calls : List Call) (bound : ℕ) (now : DoorState) → Session calls bound now
    → (lane : Lane) → Contains now.lanes lane → WroteReplies calls lane lane.protocol

-- a request is heard on a lane only after each one before it there was replied to
abbrev pub RequestsWaitForReplies : Type 0
RequestsWaitForReplies =
    (what : Heard) (answers : List Answer) (calls : List Call) (bound : ℕ) (now : DoorState) → Session (heard what answers ∷ calls) bound now
    → (lane : ℕ) (request : Request) → what.event ≡ event.Request lane request
    → length (replies_on lane calls) ≡ length (requests_on lane calls)

-- ---- how lanes end

-- the loss of this lane is heard, or its refusal
abbrev pub is_end_on : ℕ → Event → Bool
is_end_on lane (event.Lost at) = at == lane
is_end_on lane (event.Refused at refusal) = at == lane
is_end_on lane _ = false

-- the loss of the lane was heard, or its refusal, or the caller shut it once it had come
abbrev pub is_done_on : ℕ → List Call → Bool
is_done_on lane [] = false
is_done_on lane (heard what answers ∷ calls) = is_end_on lane what.event || is_done_on lane calls
is_done_on lane (shut at answers ∷ calls) = ((at == lane) && came_in lane (answers_of calls ++ answers)) || is_done_on lane calls
is_done_on lane (_ ∷ calls) = is_done_on lane calls

-- a wire that is shut in a call is that of a lane that is done, or is still to be heard as lost
abbrev pub WiresAreShutForACause : Type 0
WiresAreShutForACause =
    (call : Call) (calls : List Call) (bound : ℕ) (now : DoorState) → Session (call ∷ calls) bound now
    → (wire : ℕ) → was_shut_in wire (answers_in call) ≡ true
    → (lane : Lane) × Contains now.lanes lane × (lane.wire ≡ wire)
    × ((lane.stage ≡ Lost) ⊎ ((lane.stage ≡ Over) × (is_done_on wire (call ∷ calls) ≡ true)))

-- once a wire was shut no answer is about it
abbrev pub WiresAreShutOnce : Type 0
WiresAreShutOnce =
    (calls : List Call) (bound : ℕ) (now : DoorState) → Session calls bound now
    → (wire : ℕ) (before after : List Answer) → answers_of calls ≡ before ++ was_shut wire ∷ after
    → (was_shut_in wire before ≡ false) × (are_about wire after ≡ false)

-- a lane of the state has its wire exactly if that wasn't shut
abbrev pub LanesHaveWires : Type 0
LanesHaveWires =
    (calls : List Call) (bound : ℕ) (now : DoorState) → Session calls bound now
    → (lane : Lane) → Contains now.lanes lane → was_shut_in lane.wire (answers_of calls) ≡ not (has_wire lane.stage)

-- Its WebSocket is gone once it is fed with these bytes: its other side closes it or breaks its rules, or a text to send was none. On a lane that
-- awaits its response, which a door has none of, what is held with these bytes is none, or isn't the upgrade that was asked for.
abbrev pub IsGone : List ℕ → Protocol → Type 0
IsGone bytes (Http http_state) = ⊥
IsGone bytes (Response response_state) = (response_state.concluded ≡ false) × Fails response_state.upgrade (response_state.lane.held ++ bytes)
IsGone bytes (Socket websocket_state) = (fed : socket.Lane) × (next : socket.Lane) × Feeds websocket_state.lane bytes fed × Takes fed next read.Gone

-- bytes that were read for its WebSocket are lost, as memory was out
abbrev pub IsSpoiled : Protocol → Type 0
IsSpoiled (Http http_state) = ⊥
IsSpoiled (Response response_state) = ⊥
IsSpoiled (Socket websocket_state) = websocket_state.lost_bytes ≡ true

-- if it is a WebSocket, it heard each message that is whole in the bytes that it was fed, or is gone
abbrev pub IsHeardOut : Protocol → Type 0
IsHeardOut (Http http_state) = ⊤
IsHeardOut (Response response_state) = ⊤
IsHeardOut (Socket websocket_state) = HasHeardAll websocket_state.lane

-- why a lane is lost, by what the wires answered so far, and by how it is left: a read found its wire ended or failed, and all that is whole was heard; a write on
-- its wire failed; it waited for a request for too long; it was full for too long with nothing written; or too much waits on it
abbrev pub IsLostRightly : ℕ → List Answer → Lane → Type 0
IsLostRightly now answers lane =
    ((ended_in lane.wire answers ≡ true) × IsHeardOut lane.protocol) ⊎ (failed_in lane.wire answers ≡ true) ⊎ (is_overdue now lane ≡ true) ⊎ (is_stalled lane ≡ true)
    ⊎ (is_too_much (length (waits lane)) ≡ true)

-- A lane that is heard as lost is so for one of these causes, or it is a WebSocket that is gone with what was read in this call, or is
-- spoiled.
abbrev pub LossesHaveCauses : Type 0
LossesHaveCauses =
    (what : Heard) (answers : List Answer) (calls : List Call) (bound bound_after : ℕ) (before after : DoorState)
    → Session calls bound before → Does (heard what answers) bound bound_after before after
    → (wire : ℕ) → what.event ≡ event.Lost wire
    → ((lane : Lane) × Contains after.lanes lane × (lane.wire ≡ wire) × IsLostRightly what.now (answers_of (heard what answers ∷ calls)) lane)
    ⊎ ((lane : Lane) × Contains before.lanes lane × (lane.wire ≡ wire) × (IsGone (read_on wire answers) lane.protocol ⊎ IsSpoiled lane.protocol))

-- ---- lanes that are full

abbrev pub is_drained_on : ℕ → Event → Bool
is_drained_on lane (event.Drained at) = at == lane
is_drained_on lane _ = false

-- the last message that was sent there was answered so that the lane is full, and it wasn't heard as drained since
abbrev pub was_full_on : ℕ → List Call → Bool
was_full_on lane [] = false
was_full_on lane (heard what answers ∷ calls) = not (is_drained_on lane what.event) && was_full_on lane calls
was_full_on lane (sent at bytes text full answers ∷ calls) = if at == lane then full else was_full_on lane calls
was_full_on lane (_ ∷ calls) = was_full_on lane calls

-- each live lane is full exactly if that was told last
abbrev pub FullnessIsTold : Type 0
FullnessIsTold =
    (calls : List Call) (bound : ℕ) (now : DoorState) → Session calls bound now
    → (lane : Lane) → Contains now.lanes lane → is_live lane.stage ≡ true → is_full lane ≡ was_full_on lane.wire calls

-- and a lane is heard as drained only if it was
abbrev pub DrainedWereFull : Type 0
DrainedWereFull =
    (what : Heard) (answers : List Answer) (calls : List Call) (bound : ℕ) (now : DoorState) → Session (heard what answers ∷ calls) bound now
    → (lane : ℕ) → what.event ≡ event.Drained lane → was_full_on lane calls ≡ true

-- ---- what WebSockets do

-- the message that this is, if it is one of this lane
abbrev pub message_on : ℕ → Event → List (List ℕ)
message_on lane (event.Bytes at bytes) = if at == lane then bytes ∷ [] else []
message_on lane _ = []

-- the messages that were heard on a lane, in order
abbrev pub messages_on : ℕ → List Call → List (List ℕ)
messages_on lane [] = []
messages_on lane (heard what answers ∷ calls) = messages_on lane calls ++ message_on lane what.event
messages_on lane (_ ∷ calls) = messages_on lane calls

-- the upgrade is heard on this lane
abbrev pub is_upgrade_on : ℕ → Event → Bool
is_upgrade_on lane (event.Upgraded at) = at == lane
is_upgrade_on lane _ = false

-- A lane goes on: a reply was said there, or its upgrade was heard, and since the last one neither its loss nor a refusal was heard, the caller didn't shut
-- it, and its wire wasn't shut.
abbrev pub goes_on : ℕ → List Call → Bool
goes_on lane [] = false
goes_on lane (heard what answers ∷ calls) =
    not (is_end_on lane what.event) && (not (was_shut_in lane answers) && (is_upgrade_on lane what.event || goes_on lane calls))
goes_on lane (replied at reply answers ∷ calls) = not (was_shut_in lane answers) && (((at == lane) && is_owed_on lane calls) || goes_on lane calls)
goes_on lane (sent at bytes text full answers ∷ calls) = not (was_shut_in lane answers) && goes_on lane calls
goes_on lane (shut at answers ∷ calls) = not (at == lane) && (not (was_shut_in lane answers) && goes_on lane calls)
goes_on lane (wrote at answers ∷ calls) = not (was_shut_in lane answers) && goes_on lane calls

-- the messages that were given on a lane since a reply was said there last, as long as it went on: on one that became a WebSocket, since its upgrade
abbrev pub sent_on : ℕ → List Call → List Sent
sent_on lane [] = []
sent_on lane (replied at reply answers ∷ calls) = if (at == lane) && is_owed_on lane calls then [] else sent_on lane calls
sent_on lane (sent at bytes text full answers ∷ calls) =
    if (at == lane) && goes_on lane calls then sent_on lane calls ++ record { is_text = text; bytes = bytes } ∷ [] else sent_on lane calls
sent_on lane (_ ∷ calls) = sent_on lane calls

-- The opening handshake of a WebSocket (RFC 6455, 4): a door's lane heard these requests and said these replies, of which the last is its upgrade; or this text
-- was asked on a dialer's, for this upgrade.
pub data Opening : Type 0 where
  by_reply : List Request → List Reply → Opening
  by_ask : Option Upgrade → List ℕ → Opening

-- its side: a client's masks are made from the seed that was given with the ask
abbrev pub side_of : Opening → SocketSide
side_of (by_reply requests replies) = side.Server
side_of (by_ask upgrade text) = side.Client (unwrap_or (option_map (λ (asked : Upgrade). asked.seed) upgrade) [])

-- these bytes were read for it, and leave this: they are the requests, or the response that accepts the upgrade that was asked for
abbrev pub Leaves : Opening → List ℕ → List ℕ → Type 0
Leaves (by_reply requests replies) front rest = Asks front requests rest
Leaves (by_ask upgrade text) front rest = Answers (option_map expected_of upgrade) front rest Upgraded

-- these bytes were written for it: they are the texts of the replies, or of the ask
abbrev pub Opens : Opening → List ℕ → Type 0
Opens (by_reply requests replies) texts = AreTextsOf replies texts
Opens (by_ask upgrade text) texts = texts ≡ text

-- What a WebSocket did, as calls of a fresh one of its side that keeps all that it has to write. It was fed what its opening leaves of the bytes read, and then
-- all others. Its payloads are the messages heard. And the bytes written, or that wait, are those of its opening, and then what it wrote. It took the messages that
-- were given while its lane went on, in order, but for those from a text on that was none; and that is why it is gone if it still is heard.
pub record IsCarried (live : Bool) (came wrote : List ℕ) (opening : Opening) (messages : List (List ℕ)) (given : List Sent) (now : socket.Lane) : Type 0 where
  pub calls : List socket_calls.Call
  pub keeps : socket.Lane
  pub runs : socket_calls.Session (socket.fresh_lane (side_of opening)) calls keeps
  pub undropped : socket_calls.dropped calls ≡ []
  pub same : now ≡ record keeps { out = record keeps.out { bytes = now.out.bytes } }
  pub front : List ℕ
  pub rest : List ℕ
  pub more : List ℕ
  pub parts : came ≡ front ++ more
  pub leaves : Leaves opening front rest
  pub fed : socket_calls.fed calls ≡ rest ++ more
  pub heard_all : socket_calls.heard calls ≡ messages
  pub texts : List ℕ
  pub opens : Opens opening texts
  pub wrote_all : wrote ≡ texts ++ keeps.out.bytes
  pub unsent : List Sent
  pub sent_all : given ≡ socket_calls.said calls ++ unsent
  pub took_all : (unsent ≡ []) ⊎ (now.ending ≡ Some BadText)
  pub sound : live ≡ true → (now.ending ≡ None) ⊎ (now.ending ≡ Some BadText)

-- a lane that became a WebSocket carries one that was opened so; no lane of a door awaits a response
abbrev pub CarriesSocket : List Call → Lane → Protocol → Type 0
CarriesSocket calls lane (Http http_state) = ⊤
CarriesSocket calls lane (Response response_state) = ⊥
CarriesSocket calls lane (Socket websocket_state) =
    IsCarried (is_live lane.stage) (read_on lane.wire (answers_of calls)) (written_on lane.wire (answers_of calls) ++ waits lane)
    (by_reply (requests_on lane.wire calls) (replies_on lane.wire calls)) (messages_on lane.wire calls) (sent_on lane.wire calls) websocket_state.lane

-- so it is of each lane that became a WebSocket
abbrev pub SocketsAreCarried : Type 0
SocketsAreCarried =
    (calls : List Call) (bound : ℕ) (now : DoorState) → Session calls bound now
    → (lane : Lane) → Contains now.lanes lane → CarriesSocket calls lane lane.protocol
