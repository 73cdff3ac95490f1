-- Worked sessions. What comes in is one number a frame, by the list below; what goes out is its text in JSON.
use Rattle.std.specs.Prelude.{◌≡◌, ℕ, pos, ◌+◌, ◌==◌, Bool, true, false, List, [], ◌∷◌, ◌++◌, map, codes, length, drop, slice_get, Option, Some, None, option_map, unwrap_or, if◌then◌else◌}
use Rattle.hv_value.specs.Tree.{Tree, text, int}
use Rattle.hv_value.specs.Tree as tree
use Rattle.hv_value.specs.View as seen
use Rattle.hm_message.specs.Fields.{trees_in}
use Rattle.hm_message.specs.declared.message.Codec.TheVariants.{Json, Pack}
use Rattle.hm_message.specs.declared.message.Ending.TheVariants.{Void, Result, Error}
use Rattle.hm_message.specs.declared.message.Message.{Message}
use Rattle.hm_message.specs.declared.message.Message.TheVariants.{Invocation, Completion}
use Rattle.hd_delivery.specs.Frames.{LinkFrame, Request, Response, Refusal, Numbered, Ack, Sequence, Ping, Close, Strange}
use Rattle.hd_delivery.specs.Bytes.{Reading, Waits, Reads, Wire}
use Rattle.hw_lanes.specs.declared.http.Method.TheVariants.{Get, Post, Delete, Other}
use Rattle.hw_lanes.specs.declared.http.Reply.{Reply}
use Rattle.hw_lanes.specs.declared.http.ReplyField.{ReplyField}
use Rattle.hd_rooms.specs.declared.vocabulary.Asked.{Asked}
use Rattle.hd_rooms.specs.declared.vocabulary.Asked.TheVariants as keeper
use Rattle.hd_rooms.specs.Registry.{members}
use Rattle.hd_rooms.specs.Rooms.{rooms}
use Rattle.hw_door.specs.declared.heard.Event.{Event}
use Rattle.hw_door.specs.declared.heard.Event.TheVariants as event
use Rattle.hw_door.specs.declared.heard.Heard.{Heard}
use Rattle.hd_server.specs.declared.vocabulary.Said.{Said}
use Rattle.hd_server.specs.declared.vocabulary.Said.TheVariants as say
use Rattle.hd_server.specs.LivesExamples.{sixteen_zeros, first_token, third_token}
use Rattle.hd_server.specs.TableExamples.{request, key}
use Rattle.hd_server.specs.Machine.{registry, first_turn}
use Rattle.hd_server.specs.Doings.{ServerEvent, work, said}
use Rattle.hd_server.specs.Plans.{Setup, usual_setup, bare_reply}
use Rattle.hd_server.specs.Serves.{Serves}
use Rattle.hd_server.specs.Plain.{Scene, served, words_of, run}

-- ---- frames that come

abbrev pub called : Option (List ℕ) → List ℕ → List Tree → LinkFrame
called id target arguments = Numbered (Invocation [] id target arguments [])

abbrev pub first_frame : ℕ → Reading
first_frame n =
    if n == 1 then Reads (Request Json 1) 1 else
    (if n == 2 then Reads (Request Json 2) 1 else
    (if n == 3 then Reads (Request Pack 1) 1 else Reads (Strange (codes "NotJson") (codes "The handshake is not JSON.")) 1))

-- the frames after the first
abbrev pub later_frames : List LinkFrame
later_frames =
    Ping ∷
    called (Some (codes "1")) (codes "Join") (text (codes "r") ∷ []) ∷
    called (Some (codes "2")) (codes "Post") (text (codes "r") ∷ text (codes "hi") ∷ []) ∷
    called None (codes "Post") (text (codes "r") ∷ text (codes "hi") ∷ []) ∷
    called None (codes "Join") (text (codes "r") ∷ []) ∷
    called (Some (codes "3")) (codes "History") (text (codes "r") ∷ int (pos 10) ∷ []) ∷
    Close None false ∷ []

abbrev pub later_frame : ℕ → Reading
later_frame n = unwrap_or (option_map (λ f. Reads f 1) (slice_get later_frames n)) Waits

abbrev pub by_first : (ℕ → Reading) → List ℕ → Reading
by_first reads [] = Waits
by_first reads (n ∷ rest) = reads n

-- ---- frames that go

-- a number below 10, which is all that the sessions write
abbrev pub digit : ℕ → List ℕ
digit n = (48 + n) ∷ []

-- the end of a record
abbrev pub ended : List ℕ → List ℕ
ended bytes = bytes ++ 30 ∷ []

abbrev pub quoted : List ℕ → List ℕ
quoted bytes = codes "\"" ++ bytes ++ codes "\""

abbrev pub tree_text : Tree → List ℕ
tree_text (text s) = quoted s
tree_text _ = codes "null"

abbrev pub with_commas : List (List ℕ) → List ℕ
with_commas [] = []
with_commas (t ∷ []) = t
with_commas (t ∷ u ∷ us) = t ++ codes "," ++ with_commas (u ∷ us)

abbrev pub list_text : List Tree → List ℕ
list_text ts = codes "[" ++ with_commas (map tree_text ts) ++ codes "]"

abbrev pub items_text : Tree → List ℕ
items_text (tree.list ts) = list_text (trees_in ts)
items_text t = tree_text t

abbrev pub error_text : Option (List ℕ) → List ℕ
error_text None = []
error_text (Some e) = codes "\"error\":" ++ quoted e ++ codes ","

abbrev pub message_text : Message → List ℕ
message_text (Invocation headers id target arguments streams) =
    codes "{\"arguments\":" ++ list_text arguments ++ codes ",\"target\":" ++ quoted target ++ codes ",\"type\":1}"
message_text (Completion headers id Void) = codes "{\"invocationId\":" ++ quoted id ++ codes ",\"type\":3}"
message_text (Completion headers id (Error e)) = codes "{\"error\":" ++ quoted e ++ codes ",\"invocationId\":" ++ quoted id ++ codes ",\"type\":3}"
message_text (Completion headers id (Result v)) =
    codes "{\"invocationId\":" ++ quoted id ++ codes ",\"result\":" ++ items_text (seen.tree v) ++ codes ",\"type\":3}"
message_text m = []

abbrev pub frame_text : LinkFrame → List ℕ
frame_text Response = codes "{}"
frame_text (Refusal e) = codes "{\"error\":" ++ quoted e ++ codes "}"
frame_text (Numbered m) = message_text m
frame_text (Ack n) = codes "{\"sequenceId\":" ++ digit n ++ codes ",\"type\":8}"
frame_text (Sequence n r) = codes "{\"sequenceId\":" ++ digit n ++ codes ",\"type\":9}"
frame_text Ping = codes "{\"type\":6}"
frame_text (Close e allow) = codes "{" ++ error_text e ++ codes "\"type\":7}"
frame_text f = []

abbrev pub wire : Wire
wire = record {
  spell = λ codec f. ended (frame_text f);
  frame_size = λ codec m. length (message_text m);
  first = λ side bytes. by_first first_frame bytes;
  later = λ codec bytes. by_first later_frame bytes;
}

-- ---- events

abbrev pub setup : Setup
setup = usual_setup (codes "/hub") wire

-- where an end holds two messages at most
abbrev pub setup_of_two : Setup
setup_of_two = record setup { limits = record setup.limits { count = 2 } }

-- where so many connections live at most
abbrev pub setup_of_live : ℕ → Setup
setup_of_live most = record setup { live = most }

-- an event at which nobody is asked
abbrev pub at : ℕ → Event → Scene
at now event = record { now = now; event = event; name = None; drawn = None; answers = []; full = [] }

-- the keeper answers this to a job
abbrev pub at_with : ℕ → Event → Asked → Scene
at_with now event answer = record { now = now; event = event; name = None; drawn = None; answers = answer ∷ []; full = [] }

-- the door answers this to what is said
abbrev pub at_filling : ℕ → Event → List Bool → Scene
at_filling now event full = record { now = now; event = event; name = None; drawn = None; answers = []; full = full }

-- 16 zero bytes are drawn
abbrev pub at_drawing : ℕ → Event → Scene
at_drawing now event = record { now = now; event = event; name = None; drawn = Some sixteen_zeros; answers = []; full = [] }

-- a socket without a token
abbrev pub plain_socket : ℕ → Event
plain_socket lane = event.Request lane (request Get (codes "/hub") [] key [])

abbrev pub negotiate : ℕ → Event
negotiate lane = event.Request lane (request Post (codes "/hub/negotiate") (codes "negotiateVersion=1&useStatefulReconnect=true") None [])

-- the query that names a token
abbrev pub with_token : List ℕ → List ℕ
with_token token = codes "id=" ++ token

-- a socket, a poll, a post and a delete with a token
abbrev pub socket_with : List ℕ → ℕ → Event
socket_with token lane = event.Request lane (request Get (codes "/hub") (with_token token) key [])

abbrev pub socket : ℕ → Event
socket lane = socket_with first_token lane

abbrev pub poll : ℕ → Event
poll lane = event.Request lane (request Get (codes "/hub") (with_token first_token) None [])

abbrev pub post : ℕ → List ℕ → Event
post lane body = event.Request lane (request Post (codes "/hub") (with_token first_token) None body)

abbrev pub delete : ℕ → Event
delete lane = event.Request lane (request Delete (codes "/hub") (with_token first_token) None [])

-- a poll that names no token
abbrev pub unnamed_poll : ℕ → Event
unnamed_poll lane = event.Request lane (request Get (codes "/hub") [] None [])

-- a negotiate, a request at the base and a socket of one whose access token is nobody's, each of which is refused
abbrev pub get_negotiate : ℕ → Event
get_negotiate lane = event.Request lane (request Get (codes "/hub/negotiate") (codes "negotiateVersion=1") None [])

abbrev pub other_method : ℕ → Event
other_method lane = event.Request lane (request Other (codes "/hub") (with_token first_token) None [])

abbrev pub strangers_socket : ℕ → Event
strangers_socket lane = event.Request lane (record (request Get (codes "/hub") [] key []) { bearer = Some (codes "abc") })

-- the keeper knows no user by that access token
abbrev pub at_stranger : ℕ → Event → Scene
at_stranger now event = record { now = now; event = event; name = Some None; drawn = None; answers = []; full = [] }

-- the door refuses what came on the lane
abbrev pub refused : ℕ → Event
refused lane = event.Refused lane (record { status = 400; field = None })

-- the lane is to be shut after the reply
abbrev pub last_poll : ℕ → Event
last_poll lane = event.Request lane (record (request Get (codes "/hub") (with_token first_token) None []) { shut = true })

abbrev pub last_socket : ℕ → Event
last_socket lane = event.Request lane (record (request Get (codes "/hub") [] key []) { shut = true })

abbrev pub last_negotiate : ℕ → Event
last_negotiate lane = event.Request lane (record (request Get (codes "/hub/negotiate") [] None []) { shut = true })

-- ---- what is said

-- what is said at each of these events
abbrev pub said_by : Setup → List Scene → List ServerEvent → List (List Said)
said_by s [] h = []
said_by s (g ∷ gs) h = let x = served rooms s g h in words_of h x ∷ said_by s gs x

abbrev pub said_at : List Scene → List (List Said)
said_at gs = said_by setup gs []

-- what is said at these events, after those
abbrev pub said_after : List Scene → List Scene → List (List Said)
said_after before gs = drop (length before) (said_at (before ++ gs))

-- where so many connections live at most
abbrev pub said_of_live : ℕ → List Scene → List (List Said)
said_of_live most gs = said_by (setup_of_live most) gs []

-- the connection that has a turn in a round after these events
abbrev pub next_after : List Scene → Option ℕ
next_after gs = first_turn 0 (work (run rooms setup gs []))

-- a refusal that tells what would not be refused
abbrev pub told_reply : ℕ → ReplyField → Reply
told_reply status field = record (bare_reply status) { field = Some field }

-- the reply after which its lane is shut
abbrev pub closing_reply : Reply → Reply
closing_reply reply = record reply { close = true }

-- a frame as a message of text
abbrev pub wrote : ℕ → List ℕ → Said
wrote lane bytes = say.Bytes lane (ended bytes) true

-- ---- the sessions

-- a room is joined, and a text posted to it, which is kept or isn't
abbrev pub joins_and_posts : Bool → List Scene
joins_and_posts is_resumable =
    at 0 (plain_socket 1) ∷ at 0 (event.Bytes 1 (1 ∷ [])) ∷ at 0 (event.Bytes 1 (1 ∷ [])) ∷ at 0 event.Quiet ∷
    at_with 0 (event.Bytes 1 (2 ∷ [])) (keeper.Log (codes "r") (codes "1") (codes "hi") is_resumable) ∷ at 0 event.Quiet ∷ at 0 event.Quiet ∷ []

-- a token, and a socket with it at this moment
abbrev pub first_socket : ℕ → List Scene
first_socket now = at_drawing 1000 (negotiate 1) ∷ at now (socket 2) ∷ []

-- a token, a socket with it and the handshake of version 2
abbrev pub on_socket : List Scene
on_socket = at_drawing 1000 (negotiate 1) ∷ at 2000 (socket 2) ∷ at 2000 (event.Bytes 2 (2 ∷ [])) ∷ []

-- nothing is heard on its socket, and it comes again at this moment
abbrev pub silent_until : ℕ → List Scene
silent_until now = at 16999 event.Quiet ∷ at 17000 event.Quiet ∷ at 31999 event.Quiet ∷ at 32000 event.Quiet ∷ at now (socket 3) ∷ []

-- a lane that is full from the answer to the handshake on, while a room is joined
abbrev pub joins_on_full : List Scene
joins_on_full =
    at 0 (plain_socket 1) ∷ at_filling 0 (event.Bytes 1 (1 ∷ [])) (true ∷ []) ∷ at 0 (event.Bytes 1 (1 ∷ [])) ∷ at 0 event.Quiet ∷ []

-- long polling: what is posted is the handshake of version 1 and a Ping
abbrev pub polls_and_posts : List Scene
polls_and_posts =
    at_drawing 0 (negotiate 1) ∷ at 0 (poll 2) ∷ at 0 (poll 3) ∷ at 0 (poll 4) ∷ at 0 (post 5 (1 ∷ 0 ∷ [])) ∷
    at 0 (delete 6) ∷ at 0 (poll 7) ∷ []

-- long polling, after the handshake of version 1 and the poll that told its answer
abbrev pub polled_once : List Scene
polled_once = at_drawing 0 (negotiate 1) ∷ at 0 (poll 2) ∷ at 0 (post 3 (1 ∷ [])) ∷ at 0 (poll 4) ∷ []

-- before the handshake, while a poll is held
abbrev pub held_before : List Scene
held_before = at_drawing 0 (negotiate 1) ∷ at 0 (poll 2) ∷ at 0 (poll 3) ∷ []

abbrev pub expired_text : List ℕ
expired_text = codes "{\"error\":\"Connection expired.\",\"type\":7}"

-- a connection in a room twice, one in MessagePack, and one that acknowledges nothing
abbrev pub room_of_three : List Scene
room_of_three =
    at 0 (plain_socket 1) ∷ at 0 (event.Bytes 1 (1 ∷ 4 ∷ 4 ∷ [])) ∷
    at 0 (plain_socket 2) ∷ at 0 (event.Bytes 2 (3 ∷ 4 ∷ [])) ∷
    at_drawing 0 (negotiate 9) ∷ at 0 (socket_with third_token 3) ∷ at 0 (event.Bytes 3 (2 ∷ 4 ∷ [])) ∷ at 0 event.Quiet ∷ []

abbrev pub posts_a_text : List Scene
posts_a_text = at_with 0 (event.Bytes 1 (3 ∷ [])) (keeper.Log (codes "r") (codes "1") (codes "hi") true) ∷ at 0 event.Quiet ∷ at 0 event.Quiet ∷ []

-- what is said at these events, after those, if an end holds two messages at most
abbrev pub said_by_two : List Scene → List Scene → List (List Said)
said_by_two before gs = drop (length before) (said_by setup_of_two (before ++ gs) [])

-- who is in the room after these events, then
abbrev pub members_by_two : List Scene → List ℕ
members_by_two gs = members (codes "r") (registry (work (run rooms setup_of_two gs []))).groups

-- the text as each of three members is told it
abbrev pub posted : List ℕ → List ℕ
posted who = codes "{\"arguments\":[\"r\"," ++ quoted who ++ codes ",\"hi\"],\"target\":\"Posted\",\"type\":1}"

-- what was posted is asked for
abbrev pub asks_history : Option (List (List ℕ)) → List Scene
asks_history texts = at_with 0 (event.Bytes 1 (5 ∷ [])) (keeper.History (codes "r") 10 texts) ∷ at 0 event.Quiet ∷ []

-- ---- a session in the relation

-- a socket, the handshake of version 1, and a room that is joined, which takes two rounds
abbrev pub joins_a_room : List Heard
joins_a_room =
    record { now = 0; event = event.Quiet } ∷ record { now = 0; event = event.Bytes 1 (1 ∷ []) } ∷
    record { now = 0; event = event.Bytes 1 (1 ∷ []) } ∷ record { now = 0; event = plain_socket 1 } ∷ []

-- a server that heard these, the latest first, may have said this
abbrev pub IsServed : List Heard → List Said → Type 0
IsServed heard words = (h : List ServerEvent) × Serves rooms setup heard h × (said h ≡ words)
