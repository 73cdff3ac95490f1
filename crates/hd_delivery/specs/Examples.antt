-- Worked worlds: what two ends do in cases that tell versions, losses and resumptions apart. Each list has the oldest event first.
use Rattle.std.specs.Prelude.{◌≡◌, ℕ, zero, suc, ◌+◌, ◌^◌, Bool, true, false, List, [], ◌∷◌, ◌++◌, map, reverse, codes, length, Some, None}
use Rattle.hv_value.specs.Tree as tree
use Rattle.hv_value.specs.Tree.{Tree, trees}
use Rattle.hm_message.specs.declared.message.Codec.{Codec}
use Rattle.hm_message.specs.declared.message.Codec.TheVariants.{Json, Pack}
use Rattle.hm_message.specs.declared.message.Message.{Message}
use Rattle.hm_message.specs.declared.message.Message.TheVariants.{Invocation}
use Rattle.hd_delivery.specs.declared.vocabulary.Got.TheVariants.{Shaken, Acked, Sequenced, Resumed, Skipped}
use Rattle.hd_delivery.specs.declared.vocabulary.Reason.TheVariants.{Done, Expired}
use Rattle.hd_delivery.specs.declared.vocabulary.Side.TheVariants.{Client, Server}
use Rattle.hd_delivery.specs.declared.vocabulary.State.{State}
use Rattle.hd_delivery.specs.declared.vocabulary.Why.TheVariants.{Duplicate}
use Rattle.hd_delivery.specs.declared.vocabulary.Got.TheVariants as gives
use Rattle.hd_delivery.specs.Frames.{Request, Response, Numbered, Ack, Sequence, Ping, Close}
use Rattle.hd_delivery.specs.Histories.{EndEvent, Attached, Detached, Fed, Took, Sent, Lent, Ticked, Silenced, Closed, Config, sent_messages, processed_messages, state, held_messages}
use Rattle.hd_delivery.specs.Worlds.{Limits, alike, Sizes, Allowed, Terms, config, Event, ByClient, ByServer, client_of, server_of, IsWorld, IsOnOneClock, Still}

-- an invocation of no id and with no arguments
abbrev pub call : List ℕ → Message
call target = Invocation [] None target [] []

-- the first of three messages
abbrev pub a : Message
a = call (codes "a")

-- the second
abbrev pub b : Message
b = call (codes "b")

-- the third
abbrev pub c : Message
c = call (codes "c")

-- limits, by their three numbers
abbrev pub limits_of : ℕ → ℕ → ℕ → Limits
limits_of frame count bytes = record { frame = frame; count = count; bytes = bytes }

-- the limits of a connection, where nothing else is asked for
abbrev pub usual : Limits
usual = limits_of 32768 1024 100000

-- the bytes of each of these messages
abbrev pub size_in : Codec → ℕ
size_in Json = 38
size_in Pack = 8

-- and one byte of framing
abbrev pub sizes : Sizes
sizes = record { frame = λ codec m. size_in codec; framed = λ codec m. size_in codec + 1 }

-- a message with bytes, which JSON carries as a text
abbrev pub with_bytes : Message
with_bytes = Invocation [] None (codes "a") (tree.bytes (1 ∷ []) ∷ []) []

-- so many lists, each in the next one
abbrev pub nested : ℕ → Tree
nested zero = tree.null
nested (suc n) = tree.list (trees (nested n ∷ []))

-- a message that nests one level deeper than a frame may
abbrev pub too_deep : Message
too_deep = Invocation [] None (codes "a") (nested 63 ∷ []) []

-- the codec that it is not
abbrev pub other_codec : Codec → Codec
other_codec Json = Pack
other_codec Pack = Json

-- the server is begun with another codec and version than the client asks for
abbrev pub terms_in : Codec → ℕ → Bool → Terms
terms_in codec version reconnect = record { codec = codec; version = version; server_codec = other_codec codec; server_version = 1; reconnect = reconnect }

-- a client that asks for JSON in this version
abbrev pub terms : ℕ → Bool → Terms
terms version reconnect = terms_in Json version reconnect

-- steps of the client
abbrev pub client : List EndEvent → List (Event EndEvent)
client steps = map ByClient steps

-- steps of the server
abbrev pub server : List EndEvent → List (Event EndEvent)
server steps = map ByServer steps

-- link 0, and the handshake on it
abbrev pub opened_in : Codec → ℕ → List (Event EndEvent)
opened_in codec version =
    client (Attached 0 0 ∷ Lent (Request codec version) ∷ [])
    ++ server (Attached 0 0 ∷ Fed (Request codec version ∷ []) ∷ Took (Shaken codec version) ∷ Lent Response ∷ [])
    ++ client (Fed (Response ∷ []) ∷ Took (Shaken codec version) ∷ [])

-- in JSON
abbrev pub opened : ℕ → List (Event EndEvent)
opened version = opened_in Json version

-- The first of two messages was read and acknowledged when its link was left, so the next link begins with the second.
abbrev pub resume_after_ack : List (Event EndEvent)
resume_after_ack =
    opened 2
    ++ client (Sent a ∷ Sent b ∷ Lent (Numbered a) ∷ Lent (Numbered b) ∷ [])
    ++ server (Fed (Numbered a ∷ []) ∷ Took (gives.Message a) ∷ Lent (Ack 1) ∷ [])
    ++ client (Fed (Ack 1 ∷ []) ∷ Took (Acked 1) ∷ Attached 1 0 ∷ [])
    ++ server (Attached 1 0 ∷ [])
    ++ client (Lent (Sequence 2 None) ∷ Lent (Numbered b) ∷ [])
    ++ server (Fed (Sequence 2 None ∷ Numbered b ∷ []) ∷ Took (Sequenced 2) ∷ Took (gives.Message b) ∷ [])

-- Both messages were processed and neither was acknowledged, so the next link has them again, and they are passed over.
abbrev pub resume_duplicates : List (Event EndEvent)
resume_duplicates =
    opened 2
    ++ client (Sent a ∷ Sent b ∷ Lent (Numbered a) ∷ Lent (Numbered b) ∷ [])
    ++ server (Fed (Numbered a ∷ Numbered b ∷ []) ∷ Took (gives.Message a) ∷ Took (gives.Message b) ∷ [])
    ++ client (Attached 1 0 ∷ [])
    ++ server (Attached 1 0 ∷ [])
    ++ client (Lent (Sequence 1 None) ∷ Lent (Numbered a) ∷ Lent (Numbered b) ∷ [])
    ++ server (
    Fed (Sequence 1 None ∷ Numbered a ∷ Numbered b ∷ []) ∷ Took (Sequenced 1) ∷ Took (Skipped (Duplicate 1)) ∷
    Took (Skipped (Duplicate 2)) ∷ [])

-- Two links with the same message: the server takes the newer one first.
abbrev pub older_link_later : List (Event EndEvent)
older_link_later =
    opened 2
    ++ client (Sent a ∷ Lent (Numbered a) ∷ [])
    ++ server (Fed (Numbered a ∷ []) ∷ Took (gives.Message a) ∷ [])
    ++ client (
    Attached 1 0 ∷ Lent (Sequence 1 None) ∷ Lent (Numbered a) ∷ Attached 2 0 ∷ Lent (Sequence 1 None) ∷ Lent (Numbered a) ∷ [])
    ++ server (
    Attached 2 0 ∷ Fed (Sequence 1 None ∷ Numbered a ∷ []) ∷ Took (Sequenced 1) ∷ Took (Skipped (Duplicate 1)) ∷ Attached 1 0 ∷
    Fed (Sequence 1 None ∷ Numbered a ∷ []) ∷ Took (Sequenced 1) ∷ Took (Skipped (Duplicate 1)) ∷ [])

-- An Ack takes out two messages that the later link has not carried yet, so a further Sequence says that the third one comes next.
abbrev pub further_sequence : List (Event EndEvent)
further_sequence =
    opened 2
    ++ client (Sent a ∷ Sent b ∷ Sent c ∷ Lent (Numbered a) ∷ Lent (Numbered b) ∷ Lent (Numbered c) ∷ [])
    ++ server (Fed (Numbered a ∷ Numbered b ∷ []) ∷ Took (gives.Message a) ∷ Took (gives.Message b) ∷ [])
    ++ client (Attached 1 0 ∷ Lent (Sequence 1 None) ∷ [])
    ++ server (Attached 1 0 ∷ Lent (Sequence 1 None) ∷ Lent (Ack 2) ∷ [])
    ++ client (
    Fed (Sequence 1 None ∷ Ack 2 ∷ []) ∷ Took (Sequenced 1) ∷ Took (Acked 2) ∷ Lent (Sequence 3 None) ∷ Lent (Numbered c) ∷ [])
    ++ server (
    Fed (Sequence 1 None ∷ Sequence 3 None ∷ Numbered c ∷ []) ∷ Took (Sequenced 1) ∷ Took (Sequenced 3) ∷ Took (gives.Message c) ∷ [])

-- Where the Ack is read before the opening is written, the opening alone says the number.
abbrev pub one_sequence : List (Event EndEvent)
one_sequence =
    opened 2
    ++ client (Sent a ∷ Sent a ∷ Lent (Numbered a) ∷ Lent (Numbered a) ∷ [])
    ++ server (Fed (Numbered a ∷ Numbered a ∷ []) ∷ Took (gives.Message a) ∷ Took (gives.Message a) ∷ [])
    ++ client (Attached 1 0 ∷ [])
    ++ server (Attached 1 0 ∷ [])
    ++ client (Sent a ∷ [])
    ++ server (Lent (Sequence 1 None) ∷ Lent (Ack 2) ∷ [])
    ++ client (
    Fed (Sequence 1 None ∷ Ack 2 ∷ []) ∷ Took (Sequenced 1) ∷ Took (Acked 2) ∷ Lent (Sequence 3 None) ∷ Lent (Numbered a) ∷ [])
    ++ server (Fed (Sequence 3 None ∷ Numbered a ∷ []) ∷ Took (Sequenced 3) ∷ Took (gives.Message a) ∷ [])

-- Version 3: both messages were processed, as the other end's opening says, so none comes again. Both ends are then still.
abbrev pub resumed_with_none : List (Event EndEvent)
resumed_with_none =
    opened 3
    ++ client (Sent a ∷ Sent b ∷ Lent (Numbered a) ∷ Lent (Numbered b) ∷ [])
    ++ server (Fed (Numbered a ∷ Numbered b ∷ []) ∷ Took (gives.Message a) ∷ Took (gives.Message b) ∷ [])
    ++ client (Attached 1 0 ∷ [])
    ++ server (Attached 1 0 ∷ [])
    ++ client (Lent (Sequence 1 (Some 0)) ∷ [])
    ++ server (Lent (Sequence 1 (Some 2)) ∷ Fed (Sequence 1 (Some 0) ∷ []) ∷ Took (Resumed 1 0) ∷ [])
    ++ client (Fed (Sequence 1 (Some 2) ∷ []) ∷ Took (Resumed 1 2) ∷ [])

-- Version 3: the second message was lost with its link, and comes once.
abbrev pub resumed_with_one : List (Event EndEvent)
resumed_with_one =
    opened 3
    ++ client (Sent a ∷ Sent b ∷ Lent (Numbered a) ∷ Lent (Numbered b) ∷ [])
    ++ server (Fed (Numbered a ∷ []) ∷ Took (gives.Message a) ∷ [])
    ++ client (Attached 1 0 ∷ [])
    ++ server (Attached 1 0 ∷ [])
    ++ client (Lent (Sequence 1 (Some 0)) ∷ [])
    ++ server (Lent (Sequence 1 (Some 1)) ∷ Fed (Sequence 1 (Some 0) ∷ []) ∷ Took (Resumed 1 0) ∷ [])
    ++ client (Fed (Sequence 1 (Some 1) ∷ []) ∷ Took (Resumed 1 1) ∷ Lent (Numbered b) ∷ [])
    ++ server (Fed (Numbered b ∷ []) ∷ Took (gives.Message b) ∷ [])

-- The client hears nothing for 30,000 ms. Before that it owed a Ping.
abbrev pub silence : List (Event EndEvent)
silence =
    opened 2
    ++ client (Ticked 0 ∷ [])
    ++ server (Ticked 0 ∷ [])
    ++ client (Ticked 15000 ∷ [])
    ++ server (Ticked 15000 ∷ [])
    ++ client (Lent Ping ∷ [])
    ++ server (Fed (Ping ∷ []) ∷ Took gives.Ping ∷ [])
    ++ client (Silenced 30000 ∷ [])
    ++ server (Ticked 30000 ∷ [])

-- A plain connection ends at a silence.
abbrev pub plain_silence : List (Event EndEvent)
plain_silence =
    opened 2
    ++ client (Ticked 0 ∷ Silenced 30000 ∷ [])

-- A plain connection ends with its link, and takes no other.
abbrev pub plain_loss : List (Event EndEvent)
plain_loss =
    opened 2
    ++ client (Detached 0 ∷ [])

-- A server that closes at once still answers the handshake first, then says its messages, and then Close.
abbrev pub closed_before_response : List (Event EndEvent)
closed_before_response =
    client (Attached 0 0 ∷ Lent (Request Json 2) ∷ [])
    ++ server (
    Attached 0 0 ∷ Fed (Request Json 2 ∷ []) ∷ Took (Shaken Json 2) ∷ Sent a ∷ Closed Done false ∷ Lent Response ∷
    Lent (Numbered a) ∷ Lent (Close None false) ∷ [])
    ++ client (
    Fed (Response ∷ Numbered a ∷ Close None false ∷ []) ∷ Took (Shaken Json 2) ∷ Took (gives.Message a) ∷ Took (gives.Closed None false) ∷ [])

-- A message was processed and acknowledged: both ends are still.
abbrev pub acknowledged : List (Event EndEvent)
acknowledged =
    opened 2
    ++ client (Sent a ∷ Lent (Numbered a) ∷ [])
    ++ server (Fed (Numbered a ∷ []) ∷ Took (gives.Message a) ∷ Lent (Ack 1) ∷ [])
    ++ client (Fed (Ack 1 ∷ []) ∷ Took (Acked 1) ∷ [])

-- On a plain connection nothing is acknowledged, and nothing is held that was lent.
abbrev pub plain_delivered : List (Event EndEvent)
plain_delivered =
    opened 2
    ++ client (Sent a ∷ Lent (Numbered a) ∷ [])
    ++ server (Fed (Numbered a ∷ []) ∷ Took (gives.Message a) ∷ [])

-- A plain connection has room again once a message was lent, here for one at a time.
abbrev pub plain_room : List (Event EndEvent)
plain_room =
    opened 2
    ++ client (Sent a ∷ Lent (Numbered a) ∷ Sent b ∷ [])

-- Three messages of 39 framed bytes each, where there is room for just these.
abbrev pub filled : List (Event EndEvent)
filled =
    opened 2
    ++ client (Sent a ∷ Sent b ∷ Sent c ∷ [])

-- A client without a link takes a message to send.
abbrev pub sent_away : List (Event EndEvent)
sent_away =
    opened 2
    ++ client (Detached 0 ∷ Sent a ∷ [])

-- So does a server that left its link.
abbrev pub server_away : List (Event EndEvent)
server_away =
    opened 2
    ++ server (Detached 0 ∷ Sent a ∷ [])

-- The names of links needn't follow each other, nor fit into 32 bits.
abbrev pub far_link : List (Event EndEvent)
far_link =
    opened 2
    ++ client (Attached (2 ^ 32 + 5) 0 ∷ Lent (Sequence 1 None) ∷ [])
    ++ server (Attached (2 ^ 32 + 5) 0 ∷ Fed (Sequence 1 None ∷ []) ∷ Took (Sequenced 1) ∷ [])

-- A Close that lets the other end connect again is read as such.
abbrev pub closed_with_allow : List (Event EndEvent)
closed_with_allow =
    opened 2
    ++ server (Closed Expired true ∷ Lent (Close (Some (codes "Connection expired.")) true) ∷ [])
    ++ client (Fed (Close (Some (codes "Connection expired.")) true ∷ []) ∷ Took (gives.Closed (Some (codes "Connection expired.")) true) ∷ [])

-- In MessagePack, where there is room for two messages of that encoding, each end holds two; bytes are sent as they are.
abbrev pub packed : List (Event EndEvent)
packed =
    opened_in Pack 2
    ++ client (Sent with_bytes ∷ Sent b ∷ [])
    ++ server (Sent b ∷ Sent c ∷ [])

-- A kept client was closed.
abbrev pub closed_kept : List (Event EndEvent)
closed_kept =
    opened 2
    ++ client (Closed Done false ∷ [])

-- The link is lost at version 4, in which no connection is kept.
abbrev pub lost_at_four : List (Event EndEvent)
lost_at_four =
    opened 4
    ++ client (Detached 0 ∷ [])

-- The server's clock is behind the client's.
abbrev pub two_clocks : List (Event EndEvent)
two_clocks =
    opened 2
    ++ client (Ticked 5 ∷ [])
    ++ server (Ticked 4 ∷ [])

-- A tick came.
abbrev pub ticked_at_five : List (Event EndEvent)
ticked_at_five =
    opened 2
    ++ client (Ticked 5 ∷ [])

-- ---- what is said of them

-- the steps of each end, the latest first
abbrev pub client_after : List (Event EndEvent) → List EndEvent
client_after events = client_of (reverse events)

-- the same of the server
abbrev pub server_after : List (Event EndEvent) → List EndEvent
server_after events = server_of (reverse events)

-- the state, and how many messages were sent, processed and are held
abbrev pub summary : Config → List EndEvent → State × ℕ × ℕ × ℕ
summary config h = (state config h, length (sent_messages h), length (processed_messages h), length (held_messages config h))

-- these events are a world, at whose end the two ends are so
pub record IsWorked (limits : Limits) (t : Terms) (events : List (Event EndEvent)) (of_client of_server : State × ℕ × ℕ × ℕ) : Type 0 where
  pub is_world : IsWorld (alike limits) sizes t (reverse events)
  pub on_one_clock : IsOnOneClock (reverse events)
  pub at_client : summary (config Client t) (client_after events) ≡ of_client
  pub at_server : summary (config Server t) (server_after events) ≡ of_server

-- at their end both are still
abbrev pub IsStill : Terms → List (Event EndEvent) → Type 0
IsStill t events = Still (config Client t) (config Server t) (client_after events) (server_after events)

-- where they end, the client may not do this
abbrev pub ClientMayNot : List (Event EndEvent) → EndEvent → Type 0
ClientMayNot events step = Allowed usual sizes (config Client (terms 2 true)) (client_after events) (server_after events) step → ⊥
