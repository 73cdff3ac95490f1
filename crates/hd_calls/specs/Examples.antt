-- Worked worlds of two peers, over a small way to write frames: each frame is four numbers. Each list has the oldest event first.
use Rattle.std.specs.Prelude.{◌≡◌, length, ◌<◌, ◌≤◌, ℕ, zero, suc, ◌+◌, ◌==◌, pos, Bool, true, false, List, [], ◌∷◌, ◌++◌, map, flat_map, replicate, reverse, Some, None, if◌then◌else◌}
use Rattle.hv_value.specs.Tree as tree
use Rattle.hv_value.specs.declared.value.Value.{Value}
use Rattle.hv_value.specs.declared.value.Value.TheVariants as value
use Rattle.hm_message.specs.declared.message.Codec.{Codec}
use Rattle.hm_message.specs.declared.message.Codec.TheVariants.{Json, Pack}
use Rattle.hm_message.specs.declared.message.Message.{Message}
use Rattle.hm_message.specs.declared.message.Message.TheVariants.{Invocation, StreamItem, Completion, StreamInvocation, CancelInvocation}
use Rattle.hm_message.specs.declared.message.Ending.TheVariants.{Void, Result}
use Rattle.hd_delivery.specs.declared.vocabulary.Got.TheVariants.{Shaken, Acked, Sequenced}
use Rattle.hd_delivery.specs.declared.vocabulary.Reason.TheVariants.{Done}
use Rattle.hd_delivery.specs.declared.vocabulary.Side.{Side}
use Rattle.hd_delivery.specs.declared.vocabulary.Side.TheVariants.{Client, Server}
use Rattle.hd_delivery.specs.Frames.{LinkFrame, Request, Response, Numbered, Ack, Sequence}
use Rattle.hd_delivery.specs.Histories.{EndEvent, Attached, Detached, Took, Lent, Closed}
use Rattle.hd_delivery.specs.Worlds.{alike, config, Event, ByClient, ByServer, client_of, server_of}
use Rattle.hd_delivery.specs.Bytes.{Reading, Reads, Wire, Bytes, Does}
use Rattle.hd_delivery.specs.Examples.{usual, terms_in}
use Rattle.hd_delivery.specs.ExamplesOverBytes.{first_letter, four_of, spell_four, read_four, first_of_four, later_of_four, codec_number}
use Rattle.hd_calls.specs.declared.vocabulary.Input.{Input}
use Rattle.hd_calls.specs.declared.vocabulary.Input.TheVariants as input
use Rattle.hd_calls.specs.declared.vocabulary.Deed.TheVariants.{Join}
use Rattle.hd_calls.specs.declared.vocabulary.Act.{Act}
use Rattle.hd_calls.specs.declared.vocabulary.Act.TheVariants as act
use Rattle.hd_calls.specs.Hubs.{Notify, Call, Stream, Invoked, Answer, Item, End, Given, Cancelled, Hub, message_of, answer_message}
use Rattle.hd_calls.specs.Numbers.{most_live, most_inputs, most_weight}
use Rattle.hd_calls.specs.Peers.{Effect, Begins, TooMany, Brings, Feeds, Flood, Marks, PeerEvent, Plain, Calls, Uploads, Cancels, Reads, Handles, Runs, Answers, Loses, Rounds, Settings}
use Rattle.hd_calls.specs.Rules.{inputs_left, kept_weight, own_live, live_jobs, TooManyLive, IsRefusedCall, MayMove, Follows}
use Rattle.hd_calls.specs.PeerWorlds.{Pair, settings, IsPeerWorld}

-- ---- a hub

-- a value of this number
abbrev pub int : ℕ → Value
int n = value.Int (pos n)

-- what a job does at a turn, by its number: 0 ends with 7, 1 gives 41 and then waits to be cancelled, 3 ends with nothing, 4 waits for the end of an upload and
-- then ends with 5, 5 asks the other side to call 0 and ends as that does, and 6 joins a group and ends with what that gives
abbrev pub job_step : ℕ → Input → ℕ × Act
job_step zero i = (0, act.End (Result (int 7)))
job_step (suc zero) i = (2, act.Item (int 41))
job_step (suc (suc zero)) i = (2, act.Wait)
job_step (suc (suc (suc (suc zero)))) (input.StreamEnd w e) = (0, act.End (Result (int 5)))
job_step (suc (suc (suc (suc zero)))) i = (4, act.Wait)
job_step (suc (suc (suc (suc (suc zero))))) (input.Asked e) = (0, act.End e)
job_step (suc (suc (suc (suc (suc zero))))) i = (5, act.Ask (0 ∷ []) [])
job_step (suc (suc (suc (suc (suc (suc n)))))) (input.Done v) = (0, act.End (Result v))
job_step (suc (suc (suc (suc (suc (suc n)))))) i = (6, act.Do (Join (1 ∷ [])))
job_step n i = (0, act.End Void)

-- a hub whose targets are numbers
abbrev pub hub : Hub ℕ
hub = record { begin_of = λ c now. first_letter c.target; step_of = λ job i now. job_step job i }

-- ---- ids, messages and frames

-- the ids of a side's numbers: a client's have one letter, a server's two
abbrev pub name_at : Side → ℕ → List ℕ
name_at Client n = n ∷ []
name_at Server n = 115 ∷ n ∷ []

-- the number of a message among those below
abbrev pub number_of : Message → ℕ
number_of (Invocation headers id target arguments streams) = first_letter target
number_of (StreamInvocation headers id target arguments streams) = first_letter target
number_of (StreamItem headers id item) = 10 + first_letter id
number_of (Completion headers id ending) = if first_letter id == 115 then 30 else 20 + first_letter id
number_of (CancelInvocation headers id) = 40 + first_letter id
number_of m = 0

-- how a frame is written
abbrev pub spell_numbered : LinkFrame → List ℕ
spell_numbered (Numbered m) = four_of 3 (number_of m) 0 0
spell_numbered f = spell_four f

-- ---- a world: a stream that is cancelled, a call with an upload, and a call whose job asks its caller

-- a stream, with the number 1
abbrev pub streamed : Invoked
streamed = record { way = Stream (1 ∷ []); target = 1 ∷ []; arguments = []; streams = [] }

-- a call with an upload, with the numbers 2 and 3
abbrev pub fed : Invoked
fed = record { way = Call (2 ∷ []); target = 4 ∷ []; arguments = []; streams = (3 ∷ []) ∷ [] }

-- a call whose job asks, with the number 4
abbrev pub asking : Invoked
asking = record { way = Call (4 ∷ []); target = 5 ∷ []; arguments = []; streams = [] }

-- what it asks for, with the server's number 1
abbrev pub asked : Invoked
asked = record { way = Call (115 ∷ 1 ∷ []); target = 0 ∷ []; arguments = []; streams = [] }

-- a call whose job ends at once, with the number 1
abbrev pub first_call : Invoked
first_call = record { way = Call (1 ∷ []); target = 3 ∷ []; arguments = []; streams = [] }

-- one like it, with the number 2
abbrev pub second_call : Invoked
second_call = record { way = Call (2 ∷ []); target = 2 ∷ []; arguments = []; streams = [] }

-- the message of a number
abbrev pub message_at : ℕ → Message
message_at n =
    if n == 1 then message_of streamed else
    (if n == 2 then message_of second_call else
    (if n == 3 then message_of first_call else
    (if n == 4 then message_of fed else
    (if n == 5 then message_of asking else
    (if n == 11 then StreamItem [] (1 ∷ []) (int 41) else
    (if n == 13 then StreamItem [] (3 ∷ []) (int 9) else
    (if n == 21 then Completion [] (1 ∷ []) Void else
    (if n == 22 then Completion [] (2 ∷ []) (Result (int 5)) else
    (if n == 23 then Completion [] (3 ∷ []) Void else
    (if n == 24 then Completion [] (4 ∷ []) (Result (int 7)) else
    (if n == 30 then Completion [] (115 ∷ 1 ∷ []) (Result (int 7)) else
    (if n == 41 then CancelInvocation [] (1 ∷ []) else message_of asked))))))))))))

-- what four numbers are as a later frame
abbrev pub read_numbered : ℕ → ℕ → ℕ → ℕ → Reading
read_numbered kind x y z = if kind == 3 then Reads (Numbered (message_at x)) 4 else later_of_four kind x y z

-- the whole of it, alike in both codecs
abbrev pub numbered : Wire
numbered = record { spell = λ codec. spell_numbered; frame_size = λ codec m. 4; first = λ side. read_four (first_of_four side); later = λ codec. read_four read_numbered }

-- how the two peers are begun, in this codec and version, with or without reconnect
abbrev pub pair : Codec → ℕ → Bool → Pair
pair codec version reconnect =
    record { limits = alike usual; wire = numbered; terms = terms_in codec version reconnect; name = name_at; who = λ side. [] }

-- the bytes of a message
abbrev pub bytes_of : Message → List ℕ
bytes_of m = four_of 3 (number_of m) 0 0

-- moves of the client
abbrev pub client : List PeerEvent → List (Event PeerEvent)
client moves = map ByClient moves

-- moves of the server
abbrev pub server : List PeerEvent → List (Event PeerEvent)
server moves = map ByServer moves

-- a step of an end alone
abbrev pub does : EndEvent → PeerEvent
does s = Plain (Does s)

-- the end is fed these bytes
abbrev pub hears_bytes : List ℕ → PeerEvent
hears_bytes bytes = Plain (Bytes bytes)

-- link 0, and the handshake on it
abbrev pub opened : Codec → ℕ → List (Event PeerEvent)
opened codec version =
    client (does (Attached 0 0) ∷ does (Lent (Request codec version)) ∷ [])
    ++ server (does (Attached 0 0) ∷ hears_bytes (1 ∷ version ∷ codec_number codec ∷ 0 ∷ []) ∷ does (Took (Shaken codec version)) ∷ does (Lent Response) ∷ [])
    ++ client (hears_bytes (2 ∷ 0 ∷ 0 ∷ 0 ∷ []) ∷ does (Took (Shaken codec version)) ∷ [])

-- the end says a message
abbrev pub says : Message → PeerEvent
says m = Plain (Does (Lent (Numbered m)))

-- the end is fed these messages
abbrev pub hears : List Message → PeerEvent
hears ms = Plain (Bytes (flat_map bytes_of ms))

-- the three calls are made, and two of an upload
abbrev pub calls_made : List (Event PeerEvent)
calls_made =
    client (
    Calls None 1 streamed ∷ Calls None 2 fed ∷ Calls None 4 asking ∷ Uploads 2 0 (Item (int 9)) ∷ Uploads 2 0 (End Void) ∷
    says (message_of streamed) ∷ says (message_of fed) ∷ says (message_of asking) ∷ says (answer_message (3 ∷ []) (Item (int 9))) ∷ says (answer_message (3 ∷ []) (End Void)) ∷ [])

-- the server reads them, and each job has a turn
abbrev pub calls_read : List (Event PeerEvent)
calls_read =
    server (
    hears (message_of streamed ∷ message_of fed ∷ message_of asking ∷ answer_message (3 ∷ []) (Item (int 9)) ∷ answer_message (3 ∷ []) (End Void) ∷ []) ∷
    Reads (message_of streamed) ∷ Handles (message_of streamed) (Begins streamed 10 false) ∷
    Reads (message_of fed) ∷ Handles (message_of fed) (Begins fed 10 false) ∷
    Reads (message_of asking) ∷ Handles (message_of asking) (Begins asking 10 false) ∷
    Reads (answer_message (3 ∷ []) (Item (int 9))) ∷ Handles (answer_message (3 ∷ []) (Item (int 9))) (Feeds 1 0 (Item (int 9))) ∷
    Reads (answer_message (3 ∷ []) (End Void)) ∷ Handles (answer_message (3 ∷ []) (End Void)) (Feeds 1 0 (End Void)) ∷
    Runs 0 streamed 10 (Given input.Go 11) (act.Item (int 41)) ∷
    Runs 1 fed 10 (Given input.Go 11) act.Wait ∷
    Runs 2 asking 10 (Given input.Go 11) (act.Ask (0 ∷ []) []) ∷
    Calls (Some 2) 1 asked ∷
    Rounds ∷ Runs 0 streamed 10 (Given input.Go 12) act.Wait ∷ Runs 1 fed 10 (Given (input.Item 0 (int 9)) 12) act.Wait ∷
    Rounds ∷ Runs 1 fed 10 (Given (input.StreamEnd 0 None) 13) (act.End (Result (int 5))) ∷
    says (answer_message (1 ∷ []) (Item (int 41))) ∷ says (message_of asked) ∷ says (answer_message (2 ∷ []) (End (Result (int 5)))) ∷ [])

-- the client reads what came, answers the ask, and cancels the stream
abbrev pub answers_read : List (Event PeerEvent)
answers_read =
    client (
    hears (answer_message (1 ∷ []) (Item (int 41)) ∷ message_of asked ∷ answer_message (2 ∷ []) (End (Result (int 5))) ∷ []) ∷
    Reads (answer_message (1 ∷ []) (Item (int 41))) ∷ Handles (answer_message (1 ∷ []) (Item (int 41))) (Brings 1 (Item (int 41)) false) ∷
    Reads (message_of asked) ∷ Handles (message_of asked) (Begins asked 14 false) ∷
    Reads (answer_message (2 ∷ []) (End (Result (int 5)))) ∷ Handles (answer_message (2 ∷ []) (End (Result (int 5)))) (Brings 2 (End (Result (int 5))) false) ∷
    Runs 0 asked 14 (Given input.Go 15) (act.End (Result (int 7))) ∷
    Cancels 1 ∷
    says (answer_message (115 ∷ 1 ∷ []) (End (Result (int 7)))) ∷ says (CancelInvocation [] (1 ∷ [])) ∷ [])

-- the server ends both jobs, and the client reads their endings
abbrev pub ended : List (Event PeerEvent)
ended =
    server (
    hears (answer_message (115 ∷ 1 ∷ []) (End (Result (int 7))) ∷ CancelInvocation [] (1 ∷ []) ∷ []) ∷
    Reads (answer_message (115 ∷ 1 ∷ []) (End (Result (int 7)))) ∷ Handles (answer_message (115 ∷ 1 ∷ []) (End (Result (int 7)))) (Brings 1 (End (Result (int 7))) false) ∷
    Reads (CancelInvocation [] (1 ∷ [])) ∷ Handles (CancelInvocation [] (1 ∷ [])) (Marks 0) ∷
    Rounds ∷ Runs 0 streamed 10 Cancelled (act.End Void) ∷
    Runs 2 asking 10 (Given (input.Asked (Result (int 7))) 16) (act.End (Result (int 7))) ∷
    says (answer_message (1 ∷ []) (End Void)) ∷ says (answer_message (4 ∷ []) (End (Result (int 7)))) ∷ [])
    ++ client (
    hears (answer_message (1 ∷ []) (End Void) ∷ answer_message (4 ∷ []) (End (Result (int 7))) ∷ []) ∷
    Reads (answer_message (1 ∷ []) (End Void)) ∷ Handles (answer_message (1 ∷ []) (End Void)) (Brings 1 (End Void) false) ∷
    Reads (answer_message (4 ∷ []) (End (Result (int 7)))) ∷ Handles (answer_message (4 ∷ []) (End (Result (int 7)))) (Brings 4 (End (Result (int 7))) false) ∷ [])

-- all of it
abbrev pub three_calls : Codec → List (Event PeerEvent)
three_calls codec = opened codec 1 ++ (calls_made ++ (calls_read ++ (answers_read ++ ended)))

-- ---- a call over a lost link

-- the link is lost with the call on it; the next one has the call again, and the answer
abbrev pub lost_link : List (Event PeerEvent)
lost_link =
    opened Pack 2
    ++ (client (Calls None 1 first_call ∷ says (message_of first_call) ∷ does (Detached 1) ∷ does (Attached 1 2) ∷ does (Lent (Sequence 1 None)) ∷ says (message_of first_call) ∷ [])
    ++ (server (
    does (Detached 1) ∷ does (Attached 1 2) ∷ does (Lent (Sequence 1 None)) ∷ hears_bytes (5 ∷ 1 ∷ 0 ∷ 0 ∷ bytes_of (message_of first_call)) ∷
    does (Took (Sequenced 1)) ∷ Reads (message_of first_call) ∷ Handles (message_of first_call) (Begins first_call 3 false) ∷
    Runs 0 first_call 3 (Given input.Go 3) (act.End Void) ∷ does (Lent (Ack 1)) ∷ says (answer_message (1 ∷ []) (End Void)) ∷ [])
    ++ (client (
    hears_bytes (5 ∷ 1 ∷ 0 ∷ 0 ∷ 4 ∷ 1 ∷ 0 ∷ 0 ∷ bytes_of (answer_message (1 ∷ []) (End Void))) ∷ does (Took (Sequenced 1)) ∷ does (Took (Acked 1)) ∷
    Reads (answer_message (1 ∷ []) (End Void)) ∷ Handles (answer_message (1 ∷ []) (End Void)) (Brings 1 (End Void) false) ∷ does (Lent (Ack 1)) ∷ [])
    ++ server (hears_bytes (4 ∷ 1 ∷ 0 ∷ 0 ∷ []) ∷ does (Took (Acked 1)) ∷ []))))

-- ---- a close with live calls

-- two calls, of which the first is answered. Its Completion waits when the client is closed, and is handled after that; the second call is
-- handed out as gone
abbrev pub closed_with_calls : List (Event PeerEvent)
closed_with_calls =
    opened Json 1
    ++ (client (Calls None 1 first_call ∷ Calls None 2 second_call ∷ says (message_of first_call) ∷ says (message_of second_call) ∷ [])
    ++ (server (
    hears (message_of first_call ∷ message_of second_call ∷ []) ∷ Reads (message_of first_call) ∷ Handles (message_of first_call) (Begins first_call 3 false) ∷
    Runs 0 first_call 3 (Given input.Go 3) (act.End Void) ∷ says (answer_message (1 ∷ []) (End Void)) ∷ [])
    ++ client (
    hears (answer_message (1 ∷ []) (End Void) ∷ []) ∷ Reads (answer_message (1 ∷ []) (End Void)) ∷ does (Closed Done false) ∷
    Handles (answer_message (1 ∷ []) (End Void)) (Brings 1 (End Void) false) ∷ Loses 2 ∷ [])))

-- ---- too many jobs

-- a call that wants no answer
abbrev pub notice : Invoked
notice = record { way = Notify; target = []; arguments = []; streams = [] }

-- so many of them were handled, and no job had a turn
abbrev pub noticed : ℕ → List PeerEvent
noticed zero = []
noticed (suc k) = Handles (message_of notice) (Begins notice 0 false) ∷ Reads (message_of notice) ∷ noticed k

-- where one more waits
abbrev pub one_more : ℕ → List PeerEvent
one_more k = Reads (message_of notice) ∷ noticed k

-- each begins a job as long as fewer than the most are live; one more then is refused, and begins none
pub record FillsJobs (t : Settings) (k : ℕ) : Type 0 where
  pub live : live_jobs t (noticed k) ≡ k
  pub may : k ≤ most_live → Follows hub t (noticed k)
  pub refused : most_live ≤ k → MayMove hub t (one_more k) (Handles (message_of notice) (TooMany notice))
  pub begins_none : most_live ≤ k → (now : ℕ) (floods : Bool) → MayMove hub t (one_more k) (Handles (message_of notice) (Begins notice now floods)) → ⊥

-- ---- too heavy a call

-- a notice with a target of so many bytes
abbrev pub long_notice : ℕ → Invoked
long_notice k = record { way = Notify; target = replicate k 0; arguments = []; streams = [] }

-- what it does, as the first message
abbrev pub MayBegin : Settings → ℕ → Effect → Type 0
MayBegin t k e = MayMove hub t (Reads (message_of (long_notice k)) ∷ []) (Handles (message_of (long_notice k)) e)

-- it weighs 96 with its bytes, and begins its job. One that weighs more than jobs may keep closes the end with that, and no other one does
pub record FillsByCall (t : Settings) (k now : ℕ) : Type 0 where
  pub light : 96 + k ≤ most_weight → MayBegin t k (Begins (long_notice k) now false)
  pub light_alone : MayBegin t k (Begins (long_notice k) now false) → 96 + k ≤ most_weight
  pub heavy : most_weight < 96 + k → MayBegin t k (Begins (long_notice k) now true)
  pub heavy_alone : MayBegin t k (Begins (long_notice k) now true) → most_weight < 96 + k

-- ---- too many calls

-- a call of this number
abbrev pub call_numbered : Settings → ℕ → Invoked
call_numbered t n = record { way = Call (t.name n); target = []; arguments = []; streams = [] }

-- so many calls were made, and none has ended
abbrev pub called_often : Settings → ℕ → List PeerEvent
called_often t zero = []
called_often t (suc k) = Calls None (suc k) (call_numbered t (suc k)) ∷ called_often t k

-- each may be made as long as fewer than the most are live; one more then is refused
pub record FillsCalls (t : Settings) (k : ℕ) : Type 0 where
  pub live : own_live (called_often t k) ≡ k
  pub may : k ≤ most_live → Follows hub t (called_often t k)
  pub refused : most_live ≤ k → IsRefusedCall t (called_often t k) (call_numbered t (suc k)) TooManyLive
  pub makes_none : most_live ≤ k → MayMove hub t (called_often t k) (Calls None (suc k) (call_numbered t (suc k))) → ⊥

-- ---- the moves of one side

-- what the client has done in the end
abbrev pub of_client : List (Event PeerEvent) → List PeerEvent
of_client events = client_of (reverse events)

-- what the server has
abbrev pub of_server : List (Event PeerEvent) → List PeerEvent
of_server events = server_of (reverse events)

-- ---- what is sent for a job

-- items are longer than other messages, and an ending is as much longer as its id
abbrev pub size_of : Message → ℕ
size_of (StreamItem headers id item) = 9
size_of (Completion headers id ending) = 4 + length id
size_of m = 4

-- settings with these sizes, where a frame has so many bytes at most
abbrev pub sized : ℕ → Settings
sized frame = record {
  config = config Client (terms_in Json 1 false);
  wire = record { spell = λ codec. spell_numbered; frame_size = λ codec. size_of; first = λ side. read_four (first_of_four side); later = λ codec. read_four read_numbered };
  limits = record { frame = frame; count = 1024; bytes = 100000 };
  name = name_at Client;
  who = [];
}

-- its end has taken the handshake, and a job has asked for a call, the latest move first
abbrev pub short_asks : List PeerEvent
short_asks =
    Runs 0 asking 10 (Given input.Go 11) (act.Ask (0 ∷ []) []) ∷ Handles (message_of asking) (Begins asking 10 false) ∷ Reads (message_of asking) ∷
    does (Took (Shaken Json 1)) ∷ []

-- ---- what may not come

-- a list of moves, the oldest first, after which the client may not make this one
abbrev pub ClientMayNot : List (Event PeerEvent) → PeerEvent → Type 0
ClientMayNot events d = MayMove hub (settings Client (pair Json 1 false)) (of_client events) d → ⊥

-- so it is of the server
abbrev pub ServerMayNot : List (Event PeerEvent) → PeerEvent → Type 0
ServerMayNot events d = MayMove hub (settings Server (pair Json 1 false)) (of_server events) d → ⊥

-- the streamed call's job has begun
abbrev pub one_begun : List (Event PeerEvent)
one_begun = server (Reads (message_of streamed) ∷ Handles (message_of streamed) (Begins streamed 10 false) ∷ [])

-- a job has asked for a call
abbrev pub one_asks : List (Event PeerEvent)
one_asks = opened Json 1 ++ server (Reads (message_of asking) ∷ Handles (message_of asking) (Begins asking 10 false) ∷ Runs 0 asking 10 (Given input.Go 11) (act.Ask (0 ∷ []) []) ∷ [])

-- the call that it asked for was made
abbrev pub one_asked : List (Event PeerEvent)
one_asked = one_asks ++ server (Calls (Some 0) 1 asked ∷ [])

-- an ending waits for a call that has ended
abbrev pub one_more_ending : List (Event PeerEvent)
one_more_ending = three_calls Json ++ client (Reads (answer_message (1 ∷ []) (End Void)) ∷ [])

-- an item waits for a call that is no Stream
abbrev pub one_more_item : List (Event PeerEvent)
one_more_item = opened Json 1 ++ (calls_made ++ client (Reads (answer_message (2 ∷ []) (Item (int 1))) ∷ []))

-- the two calls are live when the client is closed
abbrev pub closed_with_two : List (Event PeerEvent)
closed_with_two = opened Json 1 ++ client (Calls None 1 first_call ∷ Calls None 2 second_call ∷ does (Closed Done false) ∷ [])

-- ---- what else a message may do, whatever the other side is

-- after these moves, the oldest first, the server may make this one
abbrev pub ServerMay : List PeerEvent → PeerEvent → Type 0
ServerMay moves d = MayMove hub (settings Server (pair Json 1 false)) (reverse moves) d

-- and not this one
abbrev pub ServerNever : List PeerEvent → PeerEvent → Type 0
ServerNever moves d = ServerMay moves d → ⊥

-- the message of a call is read and begins a job
abbrev pub begins : Invoked → List PeerEvent
begins c = Reads (message_of c) ∷ Handles (message_of c) (Begins c 10 false) ∷ []

-- the message waits
abbrev pub reads : List PeerEvent → Message → List PeerEvent
reads moves m = moves ++ Reads m ∷ []

-- a call with the id of the call with an upload
abbrev pub same_id_again : Invoked
same_id_again = record { way = Call (2 ∷ []); target = 3 ∷ []; arguments = []; streams = [] }

-- a call that names the stream of that call
abbrev pub same_stream_again : Invoked
same_stream_again = record { way = Call (9 ∷ []); target = 3 ∷ []; arguments = []; streams = (3 ∷ []) ∷ [] }

-- a call that names one stream twice
abbrev pub stream_twice : Invoked
stream_twice = record { way = Call (9 ∷ []); target = 3 ∷ []; arguments = []; streams = (8 ∷ []) ∷ (8 ∷ []) ∷ [] }

-- the end of the upload came
abbrev pub upload_ended : List PeerEvent
upload_ended = begins fed ++ Reads (answer_message (3 ∷ []) (End Void)) ∷ Handles (answer_message (3 ∷ []) (End Void)) (Feeds 0 0 (End Void)) ∷ []

-- a call whose stream has the id of the server's first call
abbrev pub stolen_stream : Invoked
stolen_stream = record { way = Call (9 ∷ []); target = 4 ∷ []; arguments = []; streams = (115 ∷ 1 ∷ []) ∷ [] }

-- the server has made that call, and the other one has begun a job
abbrev pub with_own_call : List PeerEvent
with_own_call = Calls None 1 asked ∷ begins stolen_stream

-- the job was cancelled
abbrev pub cancelled_once : List PeerEvent
cancelled_once = begins streamed ++ Reads (CancelInvocation [] (1 ∷ [])) ∷ Handles (CancelInvocation [] (1 ∷ [])) (Marks 0) ∷ []

-- a notice whose job does a deed
abbrev pub doing : Invoked
doing = record { way = Notify; target = 6 ∷ []; arguments = []; streams = [] }

-- it has handed up the deed
abbrev pub deed_handed_up : List PeerEvent
deed_handed_up = does (Took (Shaken Json 1)) ∷ begins doing ++ Runs 0 doing 10 (Given input.Go 11) (act.Do (Join (1 ∷ []))) ∷ []

-- the deed was done
abbrev pub deed_done : List PeerEvent
deed_done = deed_handed_up ++ Answers 0 (input.Done (int 7)) ∷ []

-- so many items of the upload came, and the job had no turn, the latest move first
abbrev pub uploaded_often : ℕ → List PeerEvent
uploaded_often zero = reverse (begins fed)
uploaded_often (suc k) =
    Handles (answer_message (3 ∷ []) (Item (int 1))) (Feeds 0 0 (Item (int 1))) ∷ Reads (answer_message (3 ∷ []) (Item (int 1))) ∷ uploaded_often k

-- where one more waits
abbrev pub one_item_more : ℕ → List PeerEvent
one_item_more k = Reads (answer_message (3 ∷ []) (Item (int 1))) ∷ uploaded_often k

-- what the server may do then
abbrev pub MayAfterItems : ℕ → Effect → Type 0
MayAfterItems k e = MayMove hub (settings Server (pair Json 1 false)) (one_item_more k) (Handles (answer_message (3 ∷ []) (Item (int 1))) e)

-- each is fed as long as fewer than the most wait; one more then floods the job
pub record FillsInputs (k : ℕ) : Type 0 where
  pub left : inputs_left 0 (uploaded_often k) ≡ k
  pub feeds : k < most_inputs → MayAfterItems k (Feeds 0 0 (Item (int 1)))
  pub floods : most_inputs ≤ k → MayAfterItems k Flood
  pub feeds_none : most_inputs ≤ k → MayAfterItems k (Feeds 0 0 (Item (int 1))) → ⊥

-- an item that is a text of so many bytes
abbrev pub long_item : ℕ → Answer
long_item k = Item (value.Text (replicate k 0))

-- what it does where the call with an upload is all that jobs keep
abbrev pub MayBeFed : ℕ → Effect → Type 0
MayBeFed k e = MayMove hub (settings Server (pair Json 1 false)) (Reads (answer_message (3 ∷ []) (long_item k)) ∷ uploaded_often 0) (Handles (answer_message (3 ∷ []) (long_item k)) e)

-- the job of such a notice asks for a call, whose ending waits, the latest move first
abbrev pub long_asks : ℕ → List PeerEvent
long_asks k =
    Reads (answer_message (115 ∷ 1 ∷ []) (End (Result (int 7)))) ∷ Calls (Some 0) 1 asked ∷ Runs 0 (long_notice k) 10 (Given input.Go 11) (act.Ask (0 ∷ []) []) ∷
    Handles (message_of (long_notice k)) (Begins (long_notice k) 10 false) ∷ Reads (message_of (long_notice k)) ∷ []

-- the ending is brought, and closes the end or doesn't
abbrev pub MayBring : ℕ → Bool → Type 0
MayBring k floods =
    MayMove hub (settings Server (pair Json 1 false)) (long_asks k) (Handles (answer_message (115 ∷ 1 ∷ []) (End (Result (int 7)))) (Brings 1 (End (Result (int 7))) floods))

-- the ending weighs 96 beside the call. If both weigh more than jobs may keep it closes the end, and else it doesn't
pub record FillsByEnding (k : ℕ) : Type 0 where
  pub light : 192 + k ≤ most_weight → MayBring k false
  pub light_alone : MayBring k false → 192 + k ≤ most_weight
  pub heavy : most_weight < 192 + k → MayBring k true
  pub heavy_alone : MayBring k true → most_weight < 192 + k

-- a stream with arguments and two uploads
abbrev pub laden : Invoked
laden = record { way = Stream (1 ∷ 2 ∷ []); target = 3 ∷ []; arguments = tree.text (1 ∷ 2 ∷ 3 ∷ []) ∷ tree.null ∷ []; streams = (4 ∷ []) ∷ (5 ∷ 6 ∷ []) ∷ [] }

-- what the server's jobs keep after these moves, the oldest first
abbrev pub server_keeps : List PeerEvent → ℕ
server_keeps moves = kept_weight (settings Server (pair Json 1 false)) (reverse moves)

-- an item of an upload came, for which the job waits
abbrev pub item_fed : List PeerEvent
item_fed =
    begins fed ++ Runs 0 fed 10 (Given input.Go 11) act.Wait ∷ Reads (answer_message (3 ∷ []) (Item (int 1))) ∷
    Handles (answer_message (3 ∷ []) (Item (int 1))) (Feeds 0 0 (Item (int 1))) ∷ []

-- it was given to the job
abbrev pub item_taken : List PeerEvent
item_taken = item_fed ++ Runs 0 fed 10 (Given (input.Item 0 (int 1)) 12) act.Wait ∷ []

-- a job has asked for a call, which was made
abbrev pub ask_made : List PeerEvent
ask_made = does (Took (Shaken Json 1)) ∷ begins asking ++ Runs 0 asking 10 (Given input.Go 11) (act.Ask (0 ∷ []) []) ∷ Calls (Some 0) 1 asked ∷ []

-- that call was answered
abbrev pub ask_answered : List PeerEvent
ask_answered =
    ask_made ++ Reads (answer_message (115 ∷ 1 ∷ []) (End (Result (int 7)))) ∷
    Handles (answer_message (115 ∷ 1 ∷ []) (End (Result (int 7)))) (Brings 1 (End (Result (int 7))) false) ∷ []

-- the job was told so, and asks again
abbrev pub ask_told : List PeerEvent
ask_told = ask_answered ++ Runs 0 asking 10 (Given (input.Asked (Result (int 7))) 12) (act.Ask (0 ∷ []) []) ∷ []

-- the call weighs 195, and the item 48 with its bytes. It is fed if both weigh no more than jobs may keep, and else it floods the job
pub record FillsByInput (k : ℕ) : Type 0 where
  pub light : 243 + k ≤ most_weight → MayBeFed k (Feeds 0 0 (long_item k))
  pub light_alone : MayBeFed k (Feeds 0 0 (long_item k)) → 243 + k ≤ most_weight
  pub heavy : most_weight < 243 + k → MayBeFed k Flood
  pub heavy_alone : MayBeFed k Flood → most_weight < 243 + k

-- ---- what is said of them

-- these events are a world of two peers
abbrev pub IsWorked : Pair → List (Event PeerEvent) → Type 0
IsWorked p events = IsPeerWorld hub hub p (reverse events)
