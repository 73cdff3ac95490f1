-- Worked sessions, in the texts of JSON.
use Rattle.std.specs.Prelude.{ℕ, pos, ◌+◌, ◌==◌, true, false, List, [], ◌∷◌, ◌++◌, map, codes, length, Option, Some, None, option_map, if◌then◌else◌}
use Rattle.std.specs.Fmt.{decimal}
use Rattle.hv_value.specs.Tree.{Tree, text, int}
use Rattle.hv_value.specs.View as seen
use Rattle.hv_value.specs.declared.value.Value.TheVariants as value
use Rattle.hm_message.specs.declared.message.Codec.TheVariants.{Json}
use Rattle.hm_message.specs.declared.message.Ending.{Ending}
use Rattle.hm_message.specs.declared.message.Ending.TheVariants.{Void, Result, Error}
use Rattle.hm_message.specs.declared.message.Message.{Message}
use Rattle.hm_message.specs.declared.message.Message.TheVariants.{Invocation, StreamInvocation, StreamItem, Completion, CancelInvocation}
use Rattle.hm_message.specs.Same.{same_text}
use Rattle.hd_delivery.specs.Frames.{LinkFrame, Request, Response, Numbered, Ack, Sequence, Ping, Close, Strange}
use Rattle.hd_delivery.specs.Bytes.{Reading, Waits, Reads, Refuses, Wire}
use Rattle.hd_calls.specs.declared.vocabulary.CallKind.TheVariants as kind
use Rattle.hd_calls.specs.declared.vocabulary.Input.{Input}
use Rattle.hd_calls.specs.declared.vocabulary.Act.{Act}
use Rattle.hd_calls.specs.declared.vocabulary.Act.TheVariants as act
use Rattle.hd_calls.specs.Hubs.{Hub}
use Rattle.hw_door.specs.declared.heard.Event.{Event}
use Rattle.hw_door.specs.declared.heard.Event.TheVariants as event
use Rattle.hw_door.specs.declared.heard.Given.{Given}
use Rattle.hw_door.specs.declared.heard.Given.TheVariants as give
use Rattle.hw_lanes.specs.declared.http.Method.TheVariants.{Get, Post}
use Rattle.hd_server.specs.Numbers.{most_frame, most_held, most_held_bytes}
use Rattle.hd_dialing.specs.Bodies.{Told}
use Rattle.hd_dialing.specs.Plans.{Dial}
use Rattle.hd_client.specs.declared.order.Order.{Order}
use Rattle.hd_client.specs.declared.order.Order.TheVariants as order
use Rattle.hd_client.specs.Setups.{Words, Setup}
use Rattle.hd_client.specs.Events.{Outcome, outcome}
use Rattle.hd_client.specs.Printed.{printed}
use Rattle.hd_client.specs.Telling.{given, wait_for}
use Rattle.hd_client.specs.Turns.{Begin}
use Rattle.hd_client.specs.Turns as begin
use Rattle.hd_client.specs.Plain.{Scene, run}

-- ---- the hub: every call ends with nothing, and one to confirm gives its argument back

abbrev pub client_step : Ending → Input → ℕ → Ending × Act
client_step e i now = (Void, act.End e)

abbrev pub hub : Hub Ending
hub = record { begin_of = λ c now. Void; step_of = client_step }

-- ---- texts

abbrev pub quoted : List ℕ → List ℕ
quoted bytes = codes "\"" ++ bytes ++ codes "\""

abbrev pub tree_text : Tree → List ℕ
tree_text (text s) = quoted s
tree_text (int (pos n)) = decimal n
tree_text _ = codes "null"

abbrev pub with_commas : List (List ℕ) → List ℕ
with_commas [] = []
with_commas (t ∷ []) = t
with_commas (t ∷ u ∷ us) = t ++ codes "," ++ with_commas (u ∷ us)

abbrev pub list_text : List Tree → List ℕ
list_text ts = codes "[" ++ with_commas (map tree_text ts) ++ codes "]"

abbrev pub words : Words
words = record { value = λ v. tree_text (seen.tree v); text = quoted; list = list_text }

-- ---- frames

abbrev pub id_text : Option (List ℕ) → List ℕ
id_text None = []
id_text (Some id) = codes ",\"invocationId\":" ++ quoted id

abbrev pub streams_text : List (List ℕ) → List ℕ
streams_text [] = []
streams_text (id ∷ ids) = codes ",\"streamIds\":[" ++ with_commas (map quoted (id ∷ ids)) ++ codes "]"

abbrev pub message_text : Message → List ℕ
message_text (Invocation headers id target arguments streams) =
    codes "{\"arguments\":" ++ list_text arguments ++ id_text id ++ streams_text streams ++ codes ",\"target\":" ++ quoted target ++ codes ",\"type\":1}"
message_text (StreamInvocation headers id target arguments streams) =
    codes "{\"arguments\":" ++ list_text arguments ++ id_text (Some id) ++ codes ",\"target\":" ++ quoted target ++ codes ",\"type\":4}"
message_text (StreamItem headers id item) = codes "{\"invocationId\":" ++ quoted id ++ codes ",\"item\":" ++ tree_text (seen.tree item) ++ codes ",\"type\":2}"
message_text (Completion headers id Void) = codes "{\"invocationId\":" ++ quoted id ++ codes ",\"type\":3}"
message_text (Completion headers id (Error e)) = codes "{\"error\":" ++ quoted e ++ codes ",\"invocationId\":" ++ quoted id ++ codes ",\"type\":3}"
message_text (Completion headers id (Result v)) =
    codes "{\"invocationId\":" ++ quoted id ++ codes ",\"result\":" ++ tree_text (seen.tree v) ++ codes ",\"type\":3}"
message_text (CancelInvocation headers id) = codes "{\"invocationId\":" ++ quoted id ++ codes ",\"type\":5}"
message_text m = []

abbrev pub error_text : Option (List ℕ) → List ℕ
error_text None = []
error_text (Some e) = codes "\"error\":" ++ quoted e ++ codes ","

abbrev pub frame_text : LinkFrame → List ℕ
frame_text (Request codec version) = codes "{\"protocol\":\"json\",\"version\":" ++ decimal version ++ codes "}"
frame_text Response = codes "{}"
frame_text (Numbered m) = message_text m
frame_text (Ack n) = codes "{\"sequenceId\":" ++ decimal n ++ codes ",\"type\":8}"
frame_text (Sequence n r) = codes "{\"sequenceId\":" ++ decimal n ++ codes ",\"type\":9}"
frame_text Ping = codes "{\"type\":6}"
frame_text (Close e allow) = codes "{" ++ error_text e ++ codes "\"type\":7}"
frame_text f = []

-- the end of a record
abbrev pub ended : List ℕ → List ℕ
ended bytes = bytes ++ 30 ∷ []

-- the first record, if it is whole
abbrev pub in_front : ℕ → Option (List ℕ) → Option (List ℕ)
in_front b o = option_map (λ bytes. b ∷ bytes) o

abbrev pub first_record : List ℕ → Option (List ℕ)
first_record [] = None
first_record (b ∷ bytes) = if b == 30 then Some [] else in_front b (first_record bytes)

abbrev pub found : List LinkFrame → List ℕ → Option LinkFrame
found [] bytes = None
found (f ∷ fs) bytes = if same_text (frame_text f) bytes then Some f else found fs bytes

abbrev pub result_of : ℕ → ℕ → LinkFrame
result_of id n = Numbered (Completion [] (decimal id) (Result (value.Int (pos n))))

abbrev pub void_of : ℕ → LinkFrame
void_of id = Numbered (Completion [] (decimal id) Void)

abbrev pub greeting : LinkFrame
greeting = Numbered (Invocation [] None (codes "Hello") (text (codes "a") ∷ []) [])

-- a call of the server that is to be confirmed
abbrev pub confirming : LinkFrame
confirming = Numbered (Invocation [] (Some (codes "s1")) (codes "Confirm") (text (codes "a") ∷ []) [])

-- the frames that come in the sessions
abbrev pub known : List LinkFrame
known =
    result_of 1 5 ∷ void_of 1 ∷ void_of 2 ∷ Ping ∷ Sequence 1 None ∷ Ack 1 ∷ Ack 2 ∷ Close None false ∷ Close (Some (codes "Too slow.")) false ∷ greeting ∷ confirming ∷
    Numbered (StreamItem [] (codes "1") (value.Int (pos 7))) ∷ []

abbrev pub reads_known : Option LinkFrame → List ℕ → Reading
reads_known (Some f) bytes = Reads f (length bytes + 1)
reads_known None bytes = Refuses (codes "NotJson") (length bytes + 1)

abbrev pub later : Option (List ℕ) → Reading
later None = Waits
later (Some bytes) = reads_known (found known bytes) bytes

abbrev pub first : Option (List ℕ) → Reading
first None = Waits
first (Some bytes) = if same_text bytes (codes "{}") then Reads Response 3 else Reads (Strange (codes "NotJson") []) (length bytes + 1)

abbrev pub wire : Wire
wire = record {
  spell = λ codec f. ended (frame_text f);
  frame_size = λ codec m. length (message_text m);
  first = λ side bytes. first (first_record bytes);
  later = λ codec bytes. later (first_record bytes);
}

-- ---- what is heard

-- the bodies tell a token, by their first letter: k that reconnect is granted, p that it isn't, and else none
abbrev pub told_by : List ℕ → Option Told
told_by [] = None
told_by (b ∷ token) =
    if b == 107 then Some (record { token = token; reconnect = true }) else
    (if b == 112 then Some (record { token = token; reconnect = false }) else None)

abbrev pub setup : Setup
setup = record {
  dialing = record { place = 0; path = codes "/hub"; access = None; reconnect = true; tells = told_by };
  codec = Json;
  wire = wire;
  limits = record { frame = most_frame; count = most_held; bytes = most_held_bytes };
  words = words;
}

-- an end that holds one message
abbrev pub setup_of_one : Setup
setup_of_one = record setup { limits = record setup.limits { count = 1 } }

abbrev pub key : List ℕ
key = 1 ∷ 1 ∷ 1 ∷ 1 ∷ 1 ∷ 1 ∷ 1 ∷ 1 ∷ 1 ∷ 1 ∷ 1 ∷ 1 ∷ 1 ∷ 1 ∷ 1 ∷ 1 ∷ []

abbrev pub seed : List ℕ
seed = 2 ∷ 2 ∷ 2 ∷ 2 ∷ 2 ∷ 2 ∷ 2 ∷ 2 ∷ 2 ∷ 2 ∷ 2 ∷ 2 ∷ 2 ∷ 2 ∷ 2 ∷ 2 ∷ []

-- an ask is answered this lane
abbrev pub on_lane : ℕ → Dial
on_lane lane = record { lane = lane; key = Some key; seed = Some seed }

abbrev pub dials : ℕ → Scene
dials lane = record { begin = begin.Dials; dial = on_lane lane; full = [] }

abbrev pub at : ℕ → Event → Scene
at now event = record { begin = begin.Hears now event; dial = on_lane 0; full = [] }

-- an event at moment 0
abbrev pub on : Event → Scene
on event = at 0 event

-- the response to a negotiate, after which the socket is asked for on this lane
abbrev pub answer : ℕ → ℕ → List ℕ → Scene
answer status lane body = record { begin = begin.Hears 0 (event.Response 1 status body); dial = on_lane lane; full = [] }

abbrev pub all_texts : List LinkFrame → List ℕ
all_texts [] = []
all_texts (f ∷ fs) = ended (frame_text f) ++ all_texts fs

-- these frames come in one message
abbrev pub bytes : ℕ → List LinkFrame → Event
bytes lane fs = event.Bytes lane (all_texts fs)

-- ---- scripts

abbrev pub add : Order
add = order.Call kind.Call (codes "Add") (int (pos 2) ∷ int (pos 3) ∷ []) 0

abbrev pub notifies : Order
notifies = order.Call kind.Notify (codes "Echo") (int (pos 1) ∷ []) 0

-- ---- what is told

abbrev pub printed_by : Setup → List Order → List Scene → List ℕ
printed_by s script gs = printed s (run hub s script gs [])

abbrev pub given_by : Setup → List Order → List Scene → List Given
given_by s script gs = given (run hub s script gs [])

abbrev pub ends_by : Setup → List Order → List Scene → Outcome
ends_by s script gs = outcome s (run hub s script gs [])

-- a connection that is kept, to its handshake's answer, which comes on lane 2
abbrev pub up : List Scene
up = dials 1 ∷ answer 200 2 (codes "kT") ∷ on (event.Upgraded 2) ∷ on (bytes 2 (Response ∷ [])) ∷ []

-- one that isn't
abbrev pub plainly_up : List Scene
plainly_up = dials 1 ∷ answer 200 2 (codes "pT") ∷ on (event.Upgraded 2) ∷ on (bytes 2 (Response ∷ [])) ∷ []

-- on which the call to add is answered
abbrev pub answered : List Scene
answered = up ++ on (bytes 2 (result_of 1 5 ∷ [])) ∷ []

-- whose link is lost after that call, and comes again on lane 3 with the answer
abbrev pub comes_again : List Scene
comes_again = up ++ on (event.Lost 2) ∷ dials 3 ∷ on (event.Upgraded 3) ∷ on (bytes 3 (Sequence 1 None ∷ result_of 1 5 ∷ [])) ∷ []

-- each dial is lost as soon as it was made, and the next comes as soon as it may
abbrev pub four_lost : List Scene
four_lost = dials 1 ∷ on (event.Lost 1) ∷ dials 2 ∷ on (event.Lost 2) ∷ at 500 event.Quiet ∷
    dials 3 ∷ at 500 (event.Lost 3) ∷ at 1500 event.Quiet ∷ dials 4 ∷ at 1500 (event.Lost 4) ∷ at 3500 event.Quiet ∷ []

-- bytes in one message of text
abbrev pub sends : ℕ → List LinkFrame → Given
sends lane fs = give.Bytes lane (all_texts fs) true

abbrev pub asks_token : Given
asks_token = give.Ask 1 0 Post (codes "/hub/negotiate?negotiateVersion=1&useStatefulReconnect=true") None

abbrev pub asks_socket : ℕ → Given
asks_socket lane = give.Ask lane 0 Get (codes "/hub?id=T") (Some (record { key = key; seed = seed }))

-- the call to add, as it is sent
abbrev pub adding : LinkFrame
adding = Numbered (Invocation [] (Some (codes "1")) (codes "Add") (int (pos 2) ∷ int (pos 3) ∷ []) [])

abbrev pub notice : LinkFrame
notice = Numbered (Invocation [] None (codes "Echo") (int (pos 1) ∷ []) [])

abbrev pub request : LinkFrame
request = Request Json 2

-- the second of them was lost, and its pause is not over
abbrev pub lost_after : List Scene
lost_after = dials 1 ∷ on (event.Lost 1) ∷ dials 2 ∷ on (event.Lost 2) ∷ []

-- for how long the dialer is let wait then
abbrev pub waits_by : Setup → List Scene → ℕ
waits_by s gs = wait_for s (run hub s [] gs [])

-- the key of the socket isn't drawn
abbrev pub undrawn : List Scene
undrawn = dials 1 ∷ record (answer 200 2 (codes "kT")) { dial = record { lane = 2; key = None; seed = None } } ∷ []

-- the lane is full from the handshake request on
abbrev pub filling : List Scene
filling =
    dials 1 ∷ answer 200 2 (codes "kT") ∷ record { begin = begin.Hears 0 (event.Upgraded 2); dial = on_lane 0; full = true ∷ [] } ∷
    on (bytes 2 (Response ∷ [])) ∷ []
