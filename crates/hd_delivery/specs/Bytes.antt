-- The same worlds over bytes: what is fed are bytes, and readers cut them into frames.
-- HubProtocol.md, "Overview": the handshake ends with the record separator whatever the codec is; "JSON Encoding" and "MessagePack
-- (MsgPack) encoding" frame all later messages. Here any spelling and any readers may stand for these, if they are faithful.
use Rattle.std.specs.Prelude.{true, ◌≡◌, ℕ, zero, suc, ◌+◌, ◌<◌, ◌≤◌, Bool, false, List, [], ◌∷◌, ◌++◌, length, take, drop, map, sum_by, flat_map, Contains, Option, Some, None, if◌then◌else◌}
use Rattle.hm_message.specs.declared.message.Codec.{Codec}
use Rattle.hm_message.specs.declared.message.Message.{Message}
use Rattle.hm_message.specs.Kind.{IsOfNoKind}
use Rattle.hm_message.specs.Message.{is_sequenced}
use Rattle.hd_delivery.specs.declared.vocabulary.Reason.{Reason}
use Rattle.hd_delivery.specs.declared.vocabulary.Side.{Side}
use Rattle.hd_delivery.specs.declared.vocabulary.Side.TheVariants.{Client, Server}
use Rattle.hd_delivery.specs.declared.vocabulary.State.TheVariants.{Ready}
use Rattle.hd_delivery.specs.Numbers.{most_messages, most_framing}
use Rattle.hd_delivery.specs.Frames.{LinkFrame, Request, Response, Numbered, Ack, Sequence, Ping, Close, Refusal, Strange, Unreadable, error_of, received_of, Foreign}
use Rattle.hd_delivery.specs.Histories.{EndEvent, Fed, Config, is_this, present_link, stands_on, first_link, as_told, fed_frames, lent_frames, taken_count, sent_messages, codec_of, is_closed, state}
use Rattle.hd_delivery.specs.Due.{due}
use Rattle.hd_facts.specs.Prefixes.{IsPrefix}
use Rattle.hd_delivery.specs.Worlds.{Limits, Sizes, CanBeSent, Allowed, Terms, config, Event, ByClient, ByServer, client_of, server_of, Still, Delivery}

-- ---- readers

-- what a reader says of the bytes before it. What it reads is a handshake exactly where one has to come, and never Unreadable
pub data Reading : Type 0 where
  Waits : Reading  -- no whole frame yet
  Reads : (f : LinkFrame) → (size : ℕ) → Reading  -- first comes this frame, of so many bytes with its framing
  Refuses : (why : List ℕ) → (size : ℕ) → Reading  -- first comes a whole frame that can't be read
  Stops : (why : List ℕ) → Reading  -- no frame can come here

-- how frames are written and read
pub record Wire : Type 0 where
  pub spell : Codec → LinkFrame → List ℕ  -- with its framing
  pub frame_size : Codec → Message → ℕ  -- of a message's frame, without its framing
  pub first : Side → List ℕ → Reading  -- at this side, the first frame of a first link
  pub later : Codec → List ℕ → Reading  -- each later frame

-- the sizes of what is written
abbrev pub sizes_of : Wire → Sizes
sizes_of wire = record { frame = wire.frame_size; framed = λ codec m. length (wire.spell codec (Numbered m)) }

-- the frame, spelled in these bytes, is read as itself whatever comes after it, and not before it is whole
pub record IsRead (reader : List ℕ → Reading) (bytes : List ℕ) (f : LinkFrame) : Type 0 where
  pub nonempty : 0 < length bytes
  pub whole : (rest : List ℕ) → reader (bytes ++ rest) ≡ Reads f (length bytes)
  pub waits : (front rest : List ℕ) → front ++ rest ≡ bytes → 0 < length rest → reader front ≡ Waits

-- what two ends say in the codec and version, these messages among it, is read as itself
pub record IsFaithful (limits : Limits) (wire : Wire) (codec : Codec) (version : ℕ) (messages : List Message) : Type 0 where
  pub request : IsRead (wire.first Server) (wire.spell codec (Request codec version)) (Request codec version)
  pub response : IsRead (wire.first Client) (wire.spell codec Response) Response
  pub message : (m : Message) → Contains messages m → CanBeSent limits (sizes_of wire) codec m
      → IsRead (wire.later codec) (wire.spell codec (Numbered m)) (Numbered m)
  pub ack : (upto : ℕ) → upto ≤ most_messages → IsRead (wire.later codec) (wire.spell codec (Ack upto)) (Ack upto)
  pub sequence : (first : ℕ) (received : Option ℕ) → first ≤ most_messages + 1 → received_of received ≤ most_messages
      → IsRead (wire.later codec) (wire.spell codec (Sequence first received)) (Sequence first received)
  pub ping : IsRead (wire.later codec) (wire.spell codec Ping) Ping
  pub close : (reason : Reason) (allow : Bool) → IsRead (wire.later codec) (wire.spell codec (Close (error_of reason) allow)) (Close (error_of reason) allow)

-- ---- sound readers

-- a frame that may come first of all, at this side
abbrev pub IsFirst : Side → LinkFrame → Type 0
IsFirst Client Response = Unit {0}
IsFirst Server (Request codec version) = Unit {0}
IsFirst side (Strange why answer) = Unit {0}
IsFirst side f = ⊥

-- a frame that may come on each other place
abbrev pub IsLater : LinkFrame → Type 0
IsLater (Request codec version) = ⊥
IsLater Response = ⊥
IsLater (Refusal text) = ⊥
IsLater (Strange why answer) = ⊥
IsLater (Unreadable at why) = ⊥
IsLater (Numbered m) = is_sequenced m ≡ true
IsLater (Foreign n) = IsOfNoKind n
IsLater f = Unit {0}

-- this many bytes are some of these, and no more than the largest frame has with its framing
pub record IsSize (limits : Limits) (bytes : List ℕ) (size : ℕ) : Type 0 where
  pub some : 0 < size
  pub there : size ≤ length bytes
  pub bounded : size ≤ limits.frame + most_framing

-- a reader of frames of this kind waits at no bytes, and never once it has as many as the largest frame with its framing. What it says
-- lies within the bytes, and stays so whatever comes after them
pub record IsSoundReader (limits : Limits) (IsKind : LinkFrame → Type 0) (reader : List ℕ → Reading) : Type 0 where
  pub empty : reader [] ≡ Waits
  pub unfilled : (bytes : List ℕ) → reader bytes ≡ Waits → length bytes < limits.frame + most_framing
  pub reads : (bytes : List ℕ) (f : LinkFrame) (size : ℕ) → reader bytes ≡ Reads f size → IsKind f × IsSize limits bytes size
  pub refuses : (bytes why : List ℕ) (size : ℕ) → reader bytes ≡ Refuses why size → IsSize limits bytes size
  pub steady : (bytes more : List ℕ) → (reader bytes ≡ Waits → ⊥) → reader (bytes ++ more) ≡ reader bytes

-- the spelling of a message that can be sent is not shorter than its frame, with at most `most_framing` bytes of framing; the readers are
-- sound, and what is no handshake on the first place is `Strange` there and not refused as a message
pub record IsSoundWire (limits : Limits) (wire : Wire) : Type 0 where
  pub framed : (codec : Codec) (m : Message) → CanBeSent limits (sizes_of wire) codec m
      → (wire.frame_size codec m ≤ length (wire.spell codec (Numbered m))) × (length (wire.spell codec (Numbered m)) ≤ wire.frame_size codec m + most_framing)
  pub first : (side : Side) → IsSoundReader limits (IsFirst side) (wire.first side)
  pub first_refuses_none : (side : Side) (bytes why : List ℕ) (size : ℕ) → wire.first side bytes ≡ Refuses why size → ⊥
  pub later : (codec : Codec) → IsSoundReader limits IsLater (wire.later codec)

-- ---- the frames of a link

-- a frame, and how many bytes of the link it takes
abbrev pub Cut : Type 0
Cut = LinkFrame × ℕ

-- by what the reader says at a place: a frame, and then what comes after it
abbrev pub cut_by : Reading → ℕ → List ℕ → (LinkFrame → ℕ → List ℕ → List Cut) → List Cut
cut_by Waits at bytes rest = []
cut_by (Reads f size) at bytes rest = (f, size) ∷ rest f (at + size) (drop size bytes)
cut_by (Refuses why size) at bytes rest = (Unreadable (as_told at) why, size) ∷ rest (Unreadable (as_told at) why) (at + size) (drop size bytes)
cut_by (Stops why) at bytes rest = (Unreadable (as_told at) why, 0) ∷ []

-- at most so many frames, from a place on
abbrev pub cut_all : (List ℕ → Reading) → ℕ → ℕ → List ℕ → List Cut
cut_all reader zero at bytes = []
cut_all reader (suc left) at bytes = cut_by (reader bytes) at bytes (λ f. cut_all reader left)

-- a server goes on in the codec of the request
abbrev pub codec_after : Codec → LinkFrame → Codec
codec_after own (Request codec version) = codec
codec_after own _ = own

-- the frames at the front of what was fed on a link
abbrev pub cut : Wire → Config → List EndEvent → ℕ → List ℕ → List Cut
cut wire c h l bytes =
    if is_this l (first_link h)
    then cut_by (wire.first c.side bytes) 0 bytes (λ f at rest. cut_all (wire.later (codec_after c.codec f)) (length rest) at rest)
    else cut_all (wire.later (codec_of c h)) (length bytes) 0 bytes

-- the frames alone
abbrev pub frames : List Cut → List LinkFrame
frames cuts = map (λ x. x.0) cuts

-- ---- histories over bytes

-- a step of an end that is fed bytes
pub data ByteStep : Type 0 where
  Bytes : (piece : List ℕ) → ByteStep  -- these were fed
  Does : EndEvent → ByteStep

-- the steps without the bytes
abbrev pub bare_steps : List ByteStep → List EndEvent
bare_steps [] = []
bare_steps (Bytes piece ∷ h) = Fed [] ∷ bare_steps h
bare_steps (Does s ∷ h) = s ∷ bare_steps h

-- the bytes that were fed on a link
abbrev pub bytes_on : ℕ → List ByteStep → List ℕ
bytes_on l [] = []
bytes_on l (Bytes piece ∷ h) = if stands_on l (bare_steps h) then bytes_on l h ++ piece else bytes_on l h
bytes_on l (Does s ∷ h) = bytes_on l h

-- the frames that become whole with a piece
abbrev pub new_frames : Wire → Config → List ByteStep → List EndEvent → Option ℕ → List ℕ → List LinkFrame
new_frames wire c h steps None piece = []
new_frames wire c h steps (Some l) piece = drop (length (fed_frames l steps)) (frames (cut wire c steps l (bytes_on l h ++ piece)))

-- the history in frames
abbrev pub in_frames : Wire → Config → List ByteStep → List EndEvent
in_frames wire c [] = []
in_frames wire c (Bytes piece ∷ h) = let steps = in_frames wire c h in Fed (new_frames wire c h steps (present_link steps) piece) ∷ steps
in_frames wire c (Does s ∷ h) = s ∷ in_frames wire c h

-- how many bytes of a link the frames take that were dealt with
abbrev pub read_count : Wire → Config → ℕ → List ByteStep → ℕ
read_count wire c l h = sum_by (λ x. x.1) (take (taken_count l (bare_steps h)) (cut wire c (bare_steps h) l (bytes_on l h)))

-- the bytes of a link after those
abbrev pub unread : Wire → Config → ℕ → List ByteStep → List ℕ
unread wire c l h = drop (read_count wire c l h) (bytes_on l h)

-- how many bytes of a link aren't taken
abbrev pub unread_count : Wire → Config → ℕ → List ByteStep → ℕ
unread_count wire c l h = length (unread wire c l h)

-- the bytes of these frames
abbrev pub spelling_of : Wire → Codec → List LinkFrame → List ℕ
spelling_of wire codec frames = flat_map (wire.spell codec) frames

-- ---- worlds over bytes

-- what an end lent on a link, in the bytes of its codec. Before the codec is agreed only a handshake is lent, which every codec writes alike
abbrev pub lent_bytes : Wire → Config → ℕ → List ByteStep → List ℕ
lent_bytes wire c l h = spelling_of wire (codec_of c (in_frames wire c h)) (lent_frames l (in_frames wire c h))

-- the end may be fed these bytes: it has no more than a frame and its framing unread with them
pub record MayHearBytes (limits : Limits) (wire : Wire) (c : Config) (h : List ByteStep) (piece : List ℕ) : Type 0 where
  pub link : ℕ
  pub at : present_link (in_frames wire c h) ≡ Some link
  pub unclosed : is_closed c (in_frames wire c h) ≡ false
  pub few : unread_count wire c link (Bytes piece ∷ h) ≤ limits.frame + most_framing

-- what is fed is the next of what the other end lent on the link
pub record MayFeedBytes (limits : Limits) (wire : Wire) (c oc : Config) (h other : List ByteStep) (piece : List ℕ) : Type 0 where
  pub link : ℕ
  pub at : present_link (in_frames wire c h) ≡ Some link
  pub unclosed : is_closed c (in_frames wire c h) ≡ false
  pub front : IsPrefix (bytes_on link h ++ piece) (lent_bytes wire oc link other)
  pub few : unread_count wire c link (Bytes piece ∷ h) ≤ limits.frame + most_framing

-- the step may come next; what is fed is bytes
abbrev pub AllowedOverBytes : Limits → Wire → Config → Config → List ByteStep → List ByteStep → ByteStep → Type 0
AllowedOverBytes limits wire c oc h other (Bytes piece) = MayFeedBytes limits wire c oc h other piece
AllowedOverBytes limits wire c oc h other (Does (Fed piece)) = ⊥
AllowedOverBytes limits wire c oc h other (Does s) = Allowed limits (sizes_of wire) c (in_frames wire c h) (in_frames wire oc other) s

-- Each event is a step that was allowed after those before it, by its side's limits. The greatest frame is the same at both sides; what
-- else an end may hold is its own
abbrev pub IsWorldOverBytes : (Side → Limits) → Wire → Terms → List (Event ByteStep) → Type 0
IsWorldOverBytes limits wire t [] = (limits Client).frame ≡ (limits Server).frame
IsWorldOverBytes limits wire t (ByClient s ∷ w) =
    IsWorldOverBytes limits wire t w × AllowedOverBytes (limits Client) wire (config Client t) (config Server t) (client_of w) (server_of w) s
IsWorldOverBytes limits wire t (ByServer s ∷ w) =
    IsWorldOverBytes limits wire t w × AllowedOverBytes (limits Server) wire (config Server t) (config Client t) (server_of w) (client_of w) s

-- the client's history in frames
abbrev pub client_in_frames : Wire → Terms → List (Event ByteStep) → List EndEvent
client_in_frames wire t w = in_frames wire (config Client t) (client_of w)

-- the server's history in frames
abbrev pub server_in_frames : Wire → Terms → List (Event ByteStep) → List EndEvent
server_in_frames wire t w = in_frames wire (config Server t) (server_of w)

-- as `Still`, where each end has been fed every byte that the other lent
pub record StillOverBytes (wire : Wire) (cc cs : Config) (c s : List ByteStep) : Type 0 where
  pub link : ℕ
  pub client_here : present_link (in_frames wire cc c) ≡ Some link
  pub server_here : present_link (in_frames wire cs s) ≡ Some link
  pub client_ready : state cc (in_frames wire cc c) ≡ Ready
  pub server_ready : state cs (in_frames wire cs s) ≡ Ready
  pub client_fed : bytes_on link c ≡ lent_bytes wire cs link s
  pub server_fed : bytes_on link s ≡ lent_bytes wire cc link c
  pub client_taken : taken_count link (in_frames wire cc c) ≡ length (fed_frames link (in_frames wire cc c))
  pub server_taken : taken_count link (in_frames wire cs s) ≡ length (fed_frames link (in_frames wire cs s))
  pub client_due : due cc (in_frames wire cc c) ≡ None
  pub server_due : due cs (in_frames wire cs s) ≡ None

-- the same of the histories in frames, which are still where every byte was fed
pub record DeliveryOverBytes (wire : Wire) (t : Terms) (w : List (Event ByteStep)) : Type 0 where
  pub holds : Delivery t (client_in_frames wire t w) (server_in_frames wire t w)
  pub still : StillOverBytes wire (config Client t) (config Server t) (client_of w) (server_of w)
      → Still (config Client t) (config Server t) (client_in_frames wire t w) (server_in_frames wire t w)

-- it holds in every world over bytes whose readers are faithful to what is sent there
abbrev pub HoldsOverBytes : Type 0
HoldsOverBytes = (limits : Side → Limits) (wire : Wire) (t : Terms) (w : List (Event ByteStep))
    → IsFaithful (limits Client) wire t.codec t.version (sent_messages (client_in_frames wire t w) ++ sent_messages (server_in_frames wire t w))
    → IsWorldOverBytes limits wire t w → DeliveryOverBytes wire t w
