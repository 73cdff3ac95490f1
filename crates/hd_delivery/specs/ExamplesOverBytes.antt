-- Worked worlds over bytes, with a small way to write frames: each frame is four numbers, the first of which tells its kind.
use Rattle.std.specs.Prelude.{◌≡◌, ℕ, ◌+◌, ◌==◌, Bool, true, false, List, [], ◌∷◌, ◌++◌, map, reverse, codes, Option, Some, None, if◌then◌else◌}
use Rattle.hm_message.specs.declared.message.Codec.{Codec}
use Rattle.hm_message.specs.declared.message.Codec.TheVariants.{Json, Pack}
use Rattle.hm_message.specs.declared.message.Message.{Message}
use Rattle.hm_message.specs.declared.message.Message.TheVariants.{Invocation}
use Rattle.hd_delivery.specs.declared.vocabulary.Got.TheVariants.{Shaken, Acked, Sequenced}
use Rattle.hd_delivery.specs.declared.vocabulary.Reason.TheVariants.{Done, Protocol, InUse, TooMany, Flood, Slow, Expired}
use Rattle.hd_delivery.specs.declared.vocabulary.Side.{Side}
use Rattle.hd_delivery.specs.declared.vocabulary.Side.TheVariants.{Client, Server}
use Rattle.hd_delivery.specs.declared.vocabulary.State.{State}
use Rattle.hd_delivery.specs.declared.vocabulary.Got.TheVariants as gives
use Rattle.hd_delivery.specs.Frames.{LinkFrame, Request, Response, Numbered, Ack, Sequence, Ping, Close, Strange, error_of}
use Rattle.hd_delivery.specs.Histories.{Unread, Config, EndEvent, Attached, Took, Failed, Sent, Lent, Closed}
use Rattle.hd_delivery.specs.Processes.{processes}
use Rattle.hd_delivery.specs.Worlds.{Limits, Terms, config, Event, ByClient, ByServer, client_of, server_of}
use Rattle.hd_delivery.specs.Bytes.{Reading, Waits, Reads, Refuses, Stops, Wire, ByteStep, Bytes, Does, in_frames, read_count, unread, MayFeedBytes, IsWorldOverBytes, StillOverBytes}
use Rattle.hd_delivery.specs.OneHistory.{MayDoOverBytes, IsHistory, next_reader}
use Rattle.hd_delivery.specs.Examples.{call, a, b, c, limits_of, usual, terms, summary}

-- ---- what is written

abbrev pub codec_number : Codec → ℕ
codec_number Json = 0
codec_number Pack = 1

-- the number of a flag
abbrev pub flag_number : Bool → ℕ
flag_number true = 1
flag_number false = 0

-- the first letter of a text, or 0
abbrev pub first_letter : List ℕ → ℕ
first_letter [] = 0
first_letter (x ∷ xs) = x

-- the first letter of what is called
abbrev pub letter_of : Message → ℕ
letter_of (Invocation headers id target arguments streams) = first_letter target
letter_of m = 0

-- the errors of the reasons differ in the sum of their first letters and lengths
abbrev pub text_length : List ℕ → ℕ
text_length [] = 0
text_length (x ∷ xs) = text_length xs + 1

-- the number of an error, or 0 for none
abbrev pub error_number : Option (List ℕ) → ℕ
error_number None = 0
error_number (Some s) = first_letter s + text_length s

-- four numbers
abbrev pub four_of : ℕ → ℕ → ℕ → ℕ → List ℕ
four_of kind x y z = kind ∷ x ∷ y ∷ z ∷ []

-- how a frame is written. A handshake that is refused is never written
abbrev pub spell_four : LinkFrame → List ℕ
spell_four (Request codec version) = four_of 1 version (codec_number codec) 0
spell_four Response = four_of 2 0 0 0
spell_four (Numbered m) = four_of 3 (letter_of m) 0 0
spell_four (Ack upto) = four_of 4 upto 0 0
spell_four (Sequence first None) = four_of 5 first 0 0
spell_four (Sequence first (Some received)) = four_of 5 first 1 received
spell_four Ping = four_of 6 0 0 0
spell_four (Close error allow) = four_of 7 (error_number error) (flag_number allow) 0
spell_four f = four_of 0 0 0 0

-- ---- what is read

-- four numbers are a frame, of which this is said
abbrev pub read_four : (ℕ → ℕ → ℕ → ℕ → Reading) → List ℕ → Reading
read_four says (kind ∷ x ∷ y ∷ z ∷ rest) = says kind x y z
read_four says _ = Waits

-- the codec of this number
abbrev pub codec_numbered : ℕ → Codec
codec_numbered n = if n == 0 then Json else Pack

-- the error of this number
abbrev pub error_numbered : ℕ → Option (List ℕ)
error_numbered n =
    if n == 0 then None else
    (if n == 95 then error_of Protocol else
    (if n == 83 then error_of InUse else
    (if n == 99 then error_of TooMany else
    (if n == 100 then error_of Flood else
    (if n == 93 then error_of Slow else error_of Expired)))))

-- what a Sequence tells as received, by the number that tells whether it does
abbrev pub received_numbered : ℕ → ℕ → Option ℕ
received_numbered y z = if y == 0 then None else Some z

-- what is no handshake
abbrev pub no_handshake : Reading
no_handshake = Reads (Strange (codes "NotJson") (codes "The handshake is not JSON.")) 4

-- what four numbers are as the first frame of a first link
abbrev pub first_of_four : Side → ℕ → ℕ → ℕ → ℕ → Reading
first_of_four Client kind x y z = if kind == 2 then Reads Response 4 else no_handshake
first_of_four Server kind x y z = if kind == 1 then Reads (Request (codec_numbered y) x) 4 else no_handshake

-- what they are on each other place. A number from 9 on begins no frame
abbrev pub later_of_four : ℕ → ℕ → ℕ → ℕ → Reading
later_of_four kind x y z =
    if kind == 3 then Reads (Numbered (call (x ∷ []))) 4 else
    (if kind == 4 then Reads (Ack x) 4 else
    (if kind == 5 then Reads (Sequence x (received_numbered y z)) 4 else
    (if kind == 6 then Reads Ping 4 else
    (if kind == 7 then Reads (Close (error_numbered x) (y == 1)) 4 else
    (if kind == 8 then Refuses (codes "NotJson") 4 else
    Stops (codes "BadLength"))))))

-- the whole of it, alike in both codecs
abbrev pub four : Wire
four = record { spell = λ codec. spell_four; frame_size = λ codec m. 4; first = λ side. read_four (first_of_four side); later = λ codec. read_four later_of_four }

-- readers that wait for ever
abbrev pub lazy : Wire
lazy = record { spell = λ codec. spell_four; frame_size = λ codec m. 4; first = λ side bytes. Waits; later = λ codec bytes. Waits }

-- six bytes of framing
abbrev pub padded : Wire
padded = record { spell = λ codec f. spell_four f ++ 0 ∷ 0 ∷ 0 ∷ 0 ∷ 0 ∷ 0 ∷ []; frame_size = λ codec m. 4; first = λ side. read_four (first_of_four side); later = λ codec. read_four later_of_four }

-- ---- the worlds, the oldest event first

-- steps of the client
abbrev pub client : List ByteStep → List (Event ByteStep)
client steps = map ByClient steps

-- steps of the server
abbrev pub server : List ByteStep → List (Event ByteStep)
server steps = map ByServer steps

-- link 0, and the handshake on it
abbrev pub opened_over_bytes : Codec → List (Event ByteStep)
opened_over_bytes codec =
    client (Does (Attached 0 0) ∷ Does (Lent (Request codec 2)) ∷ [])
    ++ server (Does (Attached 0 0) ∷ Bytes (1 ∷ 2 ∷ codec_number codec ∷ 0 ∷ []) ∷ Does (Took (Shaken codec 2)) ∷ Does (Lent Response) ∷ [])
    ++ client (Bytes (2 ∷ 0 ∷ 0 ∷ 0 ∷ []) ∷ Does (Took (Shaken codec 2)) ∷ [])

-- the client says three messages
abbrev pub three_said : List (Event ByteStep)
three_said =
    opened_over_bytes Json
    ++ client (
    Does (Sent a) ∷ Does (Sent b) ∷ Does (Sent c) ∷ Does (Lent (Numbered a)) ∷ Does (Lent (Numbered b)) ∷ Does (Lent (Numbered c)) ∷
    [])

-- Three messages, fed one number at a time.
abbrev pub bytewise : List (Event ByteStep)
bytewise =
    three_said
    ++ server (
    Bytes (3 ∷ []) ∷ Bytes (97 ∷ []) ∷ Bytes (0 ∷ []) ∷ Bytes (0 ∷ []) ∷ Does (Took (gives.Message a)) ∷ Bytes (3 ∷ []) ∷
    Bytes (98 ∷ []) ∷ Bytes (0 ∷ []) ∷ Bytes (0 ∷ []) ∷ Does (Took (gives.Message b)) ∷ Bytes (3 ∷ []) ∷ Bytes (99 ∷ []) ∷
    Bytes (0 ∷ []) ∷ Bytes (0 ∷ []) ∷ Does (Took (gives.Message c)) ∷ [])

-- In MessagePack. The second message is cut in its middle by the loss of its link. What was read of it is dropped, and the next link has it whole.
abbrev pub cut_by_a_loss : List (Event ByteStep)
cut_by_a_loss =
    opened_over_bytes Pack
    ++ client (Does (Sent a) ∷ Does (Sent b) ∷ Does (Lent (Numbered a)) ∷ Does (Lent (Numbered b)) ∷ [])
    ++ server (Bytes (3 ∷ 97 ∷ 0 ∷ 0 ∷ 3 ∷ 98 ∷ []) ∷ Does (Took (gives.Message a)) ∷ Does (Lent (Ack 1)) ∷ [])
    ++ client (Bytes (4 ∷ 1 ∷ 0 ∷ 0 ∷ []) ∷ Does (Took (Acked 1)) ∷ Does (Attached 1 0) ∷ [])
    ++ server (Does (Attached 1 0) ∷ [])
    ++ client (Does (Lent (Sequence 2 None)) ∷ Does (Lent (Numbered b)) ∷ [])
    ++ server (Bytes (5 ∷ 2 ∷ 0 ∷ 0 ∷ 3 ∷ 98 ∷ 0 ∷ 0 ∷ []) ∷ Does (Took (Sequenced 2)) ∷ Does (Took (gives.Message b)) ∷ [])

-- A message was processed and acknowledged: both ends are still.
abbrev pub acknowledged_over_bytes : List (Event ByteStep)
acknowledged_over_bytes =
    opened_over_bytes Json
    ++ client (Does (Sent a) ∷ Does (Lent (Numbered a)) ∷ [])
    ++ server (Bytes (3 ∷ 97 ∷ 0 ∷ 0 ∷ []) ∷ Does (Took (gives.Message a)) ∷ Does (Lent (Ack 1)) ∷ [])
    ++ client (Bytes (4 ∷ 1 ∷ 0 ∷ 0 ∷ []) ∷ Does (Took (Acked 1)) ∷ [])

-- An end whose frames have four bytes at most has nine unread.
abbrev pub unread_nine : List (Event ByteStep)
unread_nine = three_said ++ server (Bytes (3 ∷ 97 ∷ 0 ∷ 0 ∷ 3 ∷ 98 ∷ 0 ∷ 0 ∷ 3 ∷ []) ∷ [])

-- The server is closed.
abbrev pub closed_over_bytes : List (Event ByteStep)
closed_over_bytes = opened_over_bytes Json ++ server (Does (Closed Done false) ∷ [])

-- ---- what is said of them

-- the state, and how many messages were sent, processed and are held
abbrev pub summary_over_bytes : Config → List ByteStep → State × ℕ × ℕ × ℕ
summary_over_bytes config h = summary config (in_frames four config h)

-- the client's end may hold the three messages that it says, the server's end one
abbrev pub own_limits : Side → Limits
own_limits Client = limits_of 4 3 12
own_limits Server = limits_of 4 1 9

-- the server's end takes a longer frame than the client's
abbrev pub two_greatest_frames : Side → Limits
two_greatest_frames Client = limits_of 4 3 12
two_greatest_frames Server = limits_of 5 3 12

-- these events are a world over bytes, at whose end the two ends are so
pub record IsWorkedOverBytes (limits : Side → Limits) (t : Terms) (events : List (Event ByteStep)) (of_client of_server : State × ℕ × ℕ × ℕ) : Type 0 where
  pub is_world : IsWorldOverBytes limits four t (reverse events)
  pub at_client : summary_over_bytes (config Client t) (client_of (reverse events)) ≡ of_client
  pub at_server : summary_over_bytes (config Server t) (server_of (reverse events)) ≡ of_server

-- at their end both are still
abbrev pub IsStillOverBytes : Terms → List (Event ByteStep) → Type 0
IsStillOverBytes t events = StillOverBytes four (config Client t) (config Server t) (client_of (reverse events)) (server_of (reverse events))

-- where they end, the server may not be fed this much more
abbrev pub IsFullFor : Limits → Terms → List (Event ByteStep) → List ℕ → Type 0
IsFullFor limits t events piece = MayFeedBytes limits four (config Server t) (config Client t) (server_of (reverse events)) (client_of (reverse events)) piece → ⊥

-- ---- places

-- a server is fed the handshake, a message and four numbers that are no frame, in pieces
abbrev pub unreadable : List ByteStep
unreadable =
    Does (Attached 0 0) ∷ Bytes (1 ∷ 2 ∷ 0 ∷ 0 ∷ 3 ∷ 97 ∷ []) ∷ Does (Took (Shaken Json 2)) ∷ Bytes (0 ∷ 0 ∷ 8 ∷ []) ∷ Does (Took (gives.Message a)) ∷ Bytes (8 ∷ 8 ∷ []) ∷ []

-- the last number of the second four comes
abbrev pub unreadable_whole : List ByteStep
unreadable_whole = unreadable ++ Bytes (8 ∷ []) ∷ []

-- on the second link places begin again
abbrev pub unreadable_later : List ByteStep
unreadable_later = unreadable ++ Does (Lent Response) ∷ Does (Attached 1 0) ∷ Bytes (6 ∷ 0 ∷ 0 ∷ 0 ∷ 8 ∷ 8 ∷ 8 ∷ 8 ∷ []) ∷ Does (Took gives.Ping) ∷ []

-- numbers with which no frame begins
abbrev pub stopped : List ByteStep
stopped = unreadable ++ Does (Lent Response) ∷ Does (Attached 1 0) ∷ Bytes (9 ∷ 9 ∷ 9 ∷ 9 ∷ 6 ∷ 0 ∷ 0 ∷ 0 ∷ []) ∷ []

-- what the server's next frame makes after these steps
abbrev pub NextStepOverBytes : List ByteStep → Option EndEvent → Type 0
NextStepOverBytes steps step = processes (config Server (terms 2 true)) (in_frames four (config Server (terms 2 true)) (reverse steps)) ≡ step

-- ---- one end alone

-- the server dealt with them
abbrev pub unreadable_failed : List ByteStep
unreadable_failed = unreadable_whole ++ Does (Failed (Unread 0 8 (codes "NotJson"))) ∷ []

-- the server is fed the handshake
abbrev pub asked : List ByteStep
asked = Does (Attached 0 0) ∷ Bytes (1 ∷ 2 ∷ 0 ∷ 0 ∷ []) ∷ []

-- the server can make these steps, whatever is on the other side
abbrev pub IsOfServer : List ByteStep → Type 0
IsOfServer steps = IsHistory usual four (config Server (terms 2 true)) (reverse steps)

-- after them it may not make this one
abbrev pub ServerMayNot : List ByteStep → ByteStep → Type 0
ServerMayNot steps step = MayDoOverBytes usual four (config Server (terms 2 true)) (reverse steps) step → ⊥

-- after these steps the server has these bytes of the link to deal with, from this place on, and its reader says this of them
pub record HasUnread (steps : List ByteStep) (l place : ℕ) (bytes : List ℕ) (reading : Reading) : Type 0 where
  pub from : read_count four (config Server (terms 2 true)) l (reverse steps) ≡ place
  pub are : unread four (config Server (terms 2 true)) l (reverse steps) ≡ bytes
  pub says : next_reader four (config Server (terms 2 true)) l (in_frames four (config Server (terms 2 true)) (reverse steps)) bytes ≡ reading
