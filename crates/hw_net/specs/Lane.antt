-- One lane of a door or of a dialer.
use Rattle.std.specs.Prelude.{option_map, ◌==◌, ◌-◌, ◌&&◌, ◌||◌, ℕ, Bool, true, false, not, nat_le, nat_lt, if◌then◌else◌, List, [], ◌++◌, length, map, Option, None, Some, is_some}
use Rattle.hw_lanes.specs.declared.http.Refusal.{Refusal}
use Rattle.hw_lanes.specs.declared.http.Reply.{Reply}
use Rattle.hw_lanes.specs.declared.http.BodyKind.TheVariants as kind
use Rattle.hh_http.specs.Lane.{at_start}
use Rattle.hh_http.specs.Texts.{accept_of_ask, continue_text, reply_text}
use Rattle.hw_door.specs.declared.heard.Upgrade.{Upgrade}
use Rattle.hw_socket.specs.Sending.{after_shut}
use Rattle.hw_socket.specs.declared.vocabulary.SocketSide.TheVariants as side
use Rattle.hw_net.specs.declared.limits.TheConstants.{MOST_BEFORE_FULL, MOST_DRAINED, MOST_STALLED, MOST_WAIT, SWITCHING}
use Rattle.hw_net.specs.declared.full.Fullness.{Fullness}
use Rattle.hw_net.specs.HttpState.{HttpStateView, is_awake as http_is_awake}
use Rattle.hw_net.specs.ResponseState.{ResponseStateView, is_awake as response_is_awake}
use Rattle.hw_net.specs.WebSocketState.{started}
use Rattle.hw_net.specs.declared.response_state.Expected.{Expected}
use Rattle.hw_net.specs.declared.protocol.Protocol.{Protocol}
use Rattle.hw_net.specs.declared.protocol.Protocol.TheVariants.{Http, Response, Socket}
use Rattle.hw_net.specs.declared.protocol.Stage.{Stage}
use Rattle.hw_net.specs.declared.protocol.Stage.TheVariants.{Live, Lost, Closing, Over}

-- a lane: the number of its wire, which is its own; since when it waits for a whole request or response, or closes; what it speaks; what was replied
-- or asked and isn't written; how far it is; and how long it is full, if it is
pub record Lane : Type 0 where
  pub wire : ℕ
  pub since : ℕ
  pub protocol : Protocol
  pub out : List ℕ
  pub stage : Stage
  pub full : Option Fullness

-- the numbers of lanes, in order
abbrev pub wires_of : List Lane → List ℕ
wires_of lanes = map (λ (lane : Lane). lane.wire) lanes

-- the frames that a WebSocket has to write
abbrev pub frames_of : Protocol → List ℕ
frames_of (Http http_state) = []
frames_of (Response response_state) = []
frames_of (Socket websocket_state) = websocket_state.lane.out.bytes

-- what waits to be written: replies or an ask, and then frames
abbrev pub waits : Lane → List ℕ
waits lane = lane.out ++ frames_of lane.protocol

abbrev pub is_live : Stage → Bool
is_live Live = true
is_live Lost = false
is_live Closing = false
is_live Over = false

abbrev pub is_over : Stage → Bool
is_over Live = false
is_over Lost = false
is_over Closing = false
is_over Over = true

-- a request was heard that isn't replied to
abbrev pub is_busy : Protocol → Bool
is_busy (Http http_state) = http_state.busy
is_busy (Response response_state) = false
is_busy (Socket websocket_state) = false

-- a reply is waited for
abbrev pub owes : Lane → Bool
owes lane = is_live lane.stage && is_busy lane.protocol

-- something may be heard at once
abbrev pub is_awake_by : Stage → Protocol → Bool
is_awake_by Live (Http http_state) = http_is_awake http_state
is_awake_by Live (Response response_state) = response_is_awake response_state
is_awake_by Live (Socket websocket_state) = not websocket_state.wants_read || websocket_state.last_read_was_full
is_awake_by Lost protocol = true
is_awake_by Closing protocol = false
is_awake_by Over protocol = false

-- a lane that is full has so little left to write that it isn't any more
abbrev pub has_drained : Option Fullness → ℕ → Bool
has_drained full unwritten = is_some full && nat_le unwritten MOST_DRAINED

abbrev pub is_drained : Lane → Bool
is_drained lane = is_live lane.stage && has_drained lane.full (length (waits lane))

abbrev pub is_awake : Lane → Bool
is_awake lane = is_awake_by lane.stage lane.protocol || is_drained lane

-- a lane that the door says is full
abbrev pub is_full : Lane → Bool
is_full lane = is_live lane.stage && is_some lane.full

-- it is full, nothing had been written on its wire for too long in its last turn, and nothing was since
abbrev pub has_stalled : Option Fullness → Bool
has_stalled None = false
has_stalled (Some full) = full.is_late && not full.has_written

abbrev pub is_stalled : Lane → Bool
is_stalled lane = has_stalled lane.full

-- once some bytes were written, or none
abbrev pub full_after_write : Bool → Option Fullness → Option Fullness
full_after_write some None = None
full_after_write some (Some full) = Some (record full { has_written = full.has_written || some })

-- after a turn at this moment: what was written till then counts from it, and if nothing was, it may have been so for too long
abbrev pub full_after_turn : ℕ → Option Fullness → Option Fullness
full_after_turn now None = None
full_after_turn now (Some full) =
    if full.has_written then Some (record { since = now; has_written = false; is_late = false })
    else Some (record full { is_late = nat_le MOST_STALLED (now - full.since) })

abbrev pub after_turn : ℕ → Lane → Lane
after_turn now lane = record lane { full = full_after_turn now lane.full }

-- after a message at this moment, with so much unwritten: a lane is full from too much on until little is left. Its time counts from its next turn
abbrev pub full_after_message : ℕ → ℕ → Option Fullness → Option Fullness
full_after_message now unwritten None = if nat_lt MOST_BEFORE_FULL unwritten then Some (record { since = now; has_written = true; is_late = false }) else None
full_after_message now unwritten (Some full) = if nat_le unwritten MOST_DRAINED then None else Some full

abbrev pub after_message : ℕ → Lane → Lane
after_message now lane = record lane { full = full_after_message now (length (waits lane)) lane.full }

-- a lane has waited for a request, or for the response to what it asked, for too long
abbrev pub is_late : ℕ → ℕ → Protocol → Bool
is_late now since (Http http_state) = not http_state.busy && nat_le MOST_WAIT (now - since)
is_late now since (Response response_state) = not response_state.concluded && nat_le MOST_WAIT (now - since)
is_late now since (Socket websocket_state) = false

abbrev pub is_overdue : ℕ → Lane → Bool
is_overdue now lane = is_late now lane.since lane.protocol

-- the reply to what is no request, after which the lane ends
abbrev pub refusal_of : Refusal → Reply
refusal_of refusal = record { status = refusal.status; kind = kind.None; body = []; accept = None; field = refusal.field; close = true }

-- the stage after the wire was shut: a lane that was heard until then is lost
abbrev pub after_end : Stage → Stage
after_end Live = Lost
after_end Lost = Lost
after_end Closing = Over
after_end Over = Over

-- a WebSocket says that it ends
abbrev pub protocol_after_shut : Protocol → Protocol
protocol_after_shut (Http http_state) = Http http_state
protocol_after_shut (Response response_state) = Response response_state
protocol_after_shut (Socket websocket_state) = Socket (record websocket_state { lane = after_shut websocket_state.lane })

-- after a reply that isn't the last on a lane of requests
abbrev pub protocol_after_reply : Protocol → Protocol
protocol_after_reply (Http http_state) = Http (record http_state { lane = record http_state.lane { ended = false }; busy = false; continued = false })
protocol_after_reply (Response response_state) = Response response_state
protocol_after_reply (Socket websocket_state) = Socket websocket_state

-- a 100 is said: one is to be, and none was for this request
abbrev pub says_continue : HttpStateView → Bool
says_continue http_state = http_state.awaits_continue && not http_state.continued

abbrev pub protocol_after_continue : Protocol → Protocol
protocol_after_continue (Http http_state) =
    Http (record http_state { awaits_continue = false; continued = http_state.awaits_continue || http_state.continued })
protocol_after_continue (Response response_state) = Response response_state
protocol_after_continue (Socket websocket_state) = Socket websocket_state

abbrev pub out_after_continue : Protocol → List ℕ → List ℕ
out_after_continue (Http http_state) out = if says_continue http_state then out ++ continue_text else out
out_after_continue (Response response_state) out = out
out_after_continue (Socket websocket_state) out = out

-- the lane once it heard what leaves this of what it speaks: a 100 that is to be said stands behind what waits
abbrev pub after_hearing : Protocol → Lane → Lane
after_hearing protocol lane = record lane { protocol = protocol_after_continue protocol; out = out_after_continue protocol lane.out }

-- the bytes that were read and belong to no request
abbrev pub rest_of : Protocol → List ℕ
rest_of (Http http_state) = http_state.lane.held
rest_of (Response response_state) = []
rest_of (Socket websocket_state) = []

-- a new WebSocket of a server that was fed these bytes
abbrev pub new_socket : List ℕ → Protocol
new_socket rest = Socket (started side.Server rest)

-- that of a client, whose upgrade was accepted: its masks are made from the seed that was given with the ask
abbrev pub accepted_socket : Option Expected → ResponseStateView → Protocol
accepted_socket None response_state = Response response_state
accepted_socket (Some expected) response_state = Socket (started (side.Client expected.seed) response_state.lane.held)

-- after the response accepted the upgrade: a WebSocket, which was fed what came after the response
abbrev pub protocol_after_upgrade : Protocol → Protocol
protocol_after_upgrade (Http http_state) = Http http_state
protocol_after_upgrade (Response response_state) = accepted_socket response_state.upgrade response_state
protocol_after_upgrade (Socket websocket_state) = Socket websocket_state

-- after a reply: a WebSocket after a 101, and else a lane that waits for its next request from now on
abbrev pub after_reply : ℕ → Reply → Lane → Lane
after_reply now reply lane =
    if reply.status == SWITCHING
    then record lane { protocol = new_socket (rest_of lane.protocol); out = lane.out ++ reply_text reply }
    else record lane { protocol = protocol_after_reply lane.protocol; out = lane.out ++ reply_text reply; since = now }

-- what is expected of the response to this upgrade
abbrev pub expected_of : Upgrade → Expected
expected_of upgrade = record { accept = accept_of_ask upgrade.key; seed = upgrade.seed }

-- a lane that asked, for this upgrade or for none, and on which nothing was read
abbrev pub asked_state : Option Upgrade → ResponseStateView
asked_state upgrade = record {
  lane = at_start;
  upgrade = option_map expected_of upgrade;
  concluded = false;
  accepted = false;
  has_unparsed = true;
  last_read_was_full = true;
}

-- the lane of a wire that was dialed at this moment, on which this is asked, for this upgrade or for none
abbrev pub dialed_lane : ℕ → ℕ → List ℕ → Option Upgrade → Lane
dialed_lane now wire ask upgrade = record {
  wire = wire;
  since = now;
  protocol = Response (asked_state upgrade);
  out = ask;
  stage = Live;
  full = None;
}
