-- Worlds of two ends over links that come and go, and what holds in each.
-- This project's own rules: which messages can be sent, the limits of what an end holds, which links it may name, and 2^62 messages at
-- most. Each end has its own clock, and its own limits.
use Rattle.std.specs.Prelude.{◌≡◌, ◌⊎◌, ℕ, suc, ◌+◌, ◌<◌, ◌≤◌, max, Bool, true, false, List, [], ◌∷◌, ◌++◌, length, sum_by, Some, None}
use Rattle.hd_facts.specs.Prefixes.{IsPrefix}
use Rattle.hm_message.specs.declared.message.Codec.{Codec}
use Rattle.hm_message.specs.declared.message.Codec.TheVariants.{Json, Pack}
use Rattle.hm_message.specs.declared.message.Message.{Message}
use Rattle.hm_message.specs.Message.{is_sequenced, Fits, message_image}
use Rattle.hd_delivery.specs.declared.vocabulary.Got.TheVariants.{Skipped}
use Rattle.hd_delivery.specs.declared.vocabulary.Side.{Side}
use Rattle.hd_delivery.specs.declared.vocabulary.Side.TheVariants.{Client, Server}
use Rattle.hd_delivery.specs.declared.vocabulary.State.TheVariants.{Ready}
use Rattle.hd_delivery.specs.declared.vocabulary.Why.TheVariants.{Duplicate}
use Rattle.hd_delivery.specs.Numbers.{most_messages}
use Rattle.hd_delivery.specs.Frames.{LinkFrame, Ack, Sequence, received_of}
use Rattle.hd_delivery.specs.Histories.{EndEvent, Attached, Detached, Fed, Took, Failed, Sent, Lent, Ticked, Silenced, Closed, Config, present_link, was_on, first_link, fed_frames, lent_frames, taken_count, sent_messages, processed_messages, codec_of, is_shaken, is_resumable, is_closed, moment, is_silence, state, held_messages}
use Rattle.hd_delivery.specs.Due.{due}
use Rattle.hd_delivery.specs.Processes.{processes}

-- ---- which step may come

-- the most bytes of a frame, and the most messages and framed bytes that an end holds
pub record Limits : Type 0 where
  pub frame : ℕ
  pub count : ℕ
  pub bytes : ℕ

-- how many bytes a message's frame has, without its framing and with it
pub record Sizes : Type 0 where
  pub frame : Codec → Message → ℕ
  pub framed : Codec → Message → ℕ

-- the end holds fewer messages than it may, and this many framed bytes more don't pass the limit
pub record HasRoom (limits : Limits) (sizes : Sizes) (c : Config) (h : List EndEvent) (size : ℕ) : Type 0 where
  pub of_count : length (held_messages c h) < limits.count
  pub of_bytes : sum_by (sizes.framed (codec_of c h)) (held_messages c h) + size ≤ limits.bytes

-- in JSON bytes are read as the text of their base64, so what is sent is the image
abbrev pub IsAsRead : Codec → Message → Type 0
IsAsRead Json m = message_image m ≡ m
IsAsRead Pack m = Unit {0}

-- the message can be sent in this codec
pub record CanBeSent (limits : Limits) (sizes : Sizes) (codec : Codec) (m : Message) : Type 0 where
  pub sequenced : is_sequenced m ≡ true
  pub fits : Fits m
  pub as_read : IsAsRead codec m
  pub short : sizes.frame codec m ≤ limits.frame

-- the end may send the message now
pub record MaySend (limits : Limits) (sizes : Sizes) (c : Config) (h : List EndEvent) (m : Message) : Type 0 where
  pub unclosed : is_closed c h ≡ false
  pub shakes : is_shaken h ≡ true
  pub few : length (sent_messages h) < most_messages
  pub can_be : CanBeSent limits sizes (codec_of c h) m
  pub room : HasRoom limits sizes c h (sizes.framed (codec_of c h) m)

-- the end may begin a link: it never stood on it, and it is the first or the connection is kept
pub record MayBegin (c : Config) (h : List EndEvent) (l now : ℕ) : Type 0 where
  pub unclosed : is_closed c h ≡ false
  pub granted : (first_link h ≡ None) ⊎ (is_resumable c h ≡ true)
  pub unused : was_on l h ≡ false
  pub in_time : moment h ≤ now

-- the end may be fed: it stands on a link and isn't closed
pub record MayHear (c : Config) (h : List EndEvent) : Type 0 where
  pub link : ℕ
  pub at : present_link h ≡ Some link
  pub unclosed : is_closed c h ≡ false

-- the step may come next after the end's own history, as far as that says. An end's moments never fall
abbrev pub MayDo : Limits → Sizes → Config → List EndEvent → EndEvent → Type 0
MayDo limits sizes c h (Attached l now) = MayBegin c h l now
MayDo limits sizes c h (Detached now) = (l : ℕ) × (present_link h ≡ Some l) × (moment h ≤ now)
MayDo limits sizes c h (Fed piece) = MayHear c h
MayDo limits sizes c h (Took got) = processes c h ≡ Some (Took got)
MayDo limits sizes c h (Failed fault) = processes c h ≡ Some (Failed fault)
MayDo limits sizes c h (Sent m) = MaySend limits sizes c h m
MayDo limits sizes c h (Lent f) = due c h ≡ Some f
MayDo limits sizes c h (Ticked now) = (is_silence c now h ≡ false) × (moment h ≤ now)
MayDo limits sizes c h (Silenced now) = (is_silence c now h ≡ true) × (moment h ≤ now)
MayDo limits sizes c h (Closed reason allow) = is_closed c h ≡ false

-- how a link may be named: the client's names rise; the server takes the client's links, in any order
abbrev pub MayName : Side → ℕ → List EndEvent → List EndEvent → Type 0
MayName Client l own other = (k : ℕ) → was_on k own ≡ true → k < l
MayName Server l own other = was_on l other ≡ true

-- the end may take a new link
pub record MayAttach (c : Config) (h other : List EndEvent) (l now : ℕ) : Type 0 where
  pub own : MayBegin c h l now
  pub open own use *
  pub named : MayName c.side l h other

-- what is fed is the next of what the other end lent on the link
pub record MayFeed (c : Config) (h other : List EndEvent) (piece : List LinkFrame) : Type 0 where
  pub link : ℕ
  pub at : present_link h ≡ Some link
  pub unclosed : is_closed c h ≡ false
  pub front : IsPrefix (fed_frames link h ++ piece) (lent_frames link other)

-- the step may come next, after the end's own history and beside the other's
abbrev pub Allowed : Limits → Sizes → Config → List EndEvent → List EndEvent → EndEvent → Type 0
Allowed limits sizes c h other (Attached l now) = MayAttach c h other l now
Allowed limits sizes c h other (Fed piece) = MayFeed c h other piece
Allowed limits sizes c h other s = MayDo limits sizes c h s

-- ---- worlds

-- how the two ends are begun. A server's own codec and version stand only until it took a request
pub record Terms : Type 0 where
  pub codec : Codec
  pub version : ℕ
  pub server_codec : Codec
  pub server_version : ℕ
  pub reconnect : Bool

-- the codec that a side is begun with
abbrev pub codec_at : Side → Terms → Codec
codec_at Client t = t.codec
codec_at Server t = t.server_codec

-- the version that a side is begun with
abbrev pub version_at : Side → Terms → ℕ
version_at Client t = t.version
version_at Server t = t.server_version

-- how a side is begun
abbrev pub config : Side → Terms → Config
config side t = record { side = side; codec = codec_at side t; version = version_at side t; reconnect = t.reconnect }

-- one step of one end
pub data Event (S : Type 0) : Type 0 where
  ByClient : S → Event S
  ByServer : S → Event S

-- the steps of the client; the latest event comes first
abbrev pub client_of : {S : Type 0} → List (Event S) → List S
client_of [] = []
client_of (ByClient s ∷ w) = s ∷ client_of w
client_of (ByServer s ∷ w) = client_of w

-- the steps of the server
abbrev pub server_of : {S : Type 0} → List (Event S) → List S
server_of [] = []
server_of (ByClient s ∷ w) = server_of w
server_of (ByServer s ∷ w) = s ∷ server_of w

-- the same limits at both sides
abbrev pub alike : Limits → Side → Limits
alike limits side = limits

-- each event is a step that was allowed after those before it, by its side's limits
abbrev pub IsWorld : (Side → Limits) → Sizes → Terms → List (Event EndEvent) → Type 0
IsWorld limits sizes t [] = Unit {0}
IsWorld limits sizes t (ByClient s ∷ w) =
    IsWorld limits sizes t w × Allowed (limits Client) sizes (config Client t) (client_of w) (server_of w) s
IsWorld limits sizes t (ByServer s ∷ w) =
    IsWorld limits sizes t w × Allowed (limits Server) sizes (config Server t) (server_of w) (client_of w) s

-- ---- one clock

-- the moment of a step, or the last one where it has none
abbrev pub moment_of : EndEvent → ℕ → ℕ
moment_of (Attached l now) last = now
moment_of (Detached now) last = now
moment_of (Ticked now) last = now
moment_of (Silenced now) last = now
moment_of _ last = last

-- the greatest moment so far at either end
abbrev pub latest : List (Event EndEvent) → ℕ
latest [] = 0
latest (ByClient s ∷ w) = max (moment_of s (latest w)) (latest w)
latest (ByServer s ∷ w) = max (moment_of s (latest w)) (latest w)

-- the moments of both ends, in one order, never fall. No world has to be so
abbrev pub IsOnOneClock : List (Event EndEvent) → Type 0
IsOnOneClock [] = Unit {0}
IsOnOneClock (ByClient s ∷ w) = IsOnOneClock w × (latest w ≤ moment_of s (latest w))
IsOnOneClock (ByServer s ∷ w) = IsOnOneClock w × (latest w ≤ moment_of s (latest w))

-- ---- stillness

-- both ends stand on one link and are Ready, each has been fed all that the other lent there and has taken every frame, and nothing is due
pub record Still (cc cs : Config) (c s : List EndEvent) : Type 0 where
  pub link : ℕ
  pub client_here : present_link c ≡ Some link
  pub server_here : present_link s ≡ Some link
  pub client_ready : state cc c ≡ Ready
  pub server_ready : state cs s ≡ Ready
  pub client_fed : fed_frames link c ≡ lent_frames link s
  pub server_fed : fed_frames link s ≡ lent_frames link c
  pub client_taken : taken_count link c ≡ length (fed_frames link c)
  pub server_taken : taken_count link s ≡ length (fed_frames link s)
  pub client_due : due cc c ≡ None
  pub server_due : due cs s ≡ None

-- ---- what holds in each

-- no failed step, and only duplicates are passed over
abbrev pub IsFaultless : List EndEvent → Type 0
IsFaultless [] = Unit {0}
IsFaultless (Failed fault ∷ h) = ⊥
IsFaultless (Took (Skipped (Duplicate n)) ∷ h) = IsFaultless h
IsFaultless (Took (Skipped why) ∷ h) = ⊥
IsFaultless (_ ∷ h) = IsFaultless h

-- no frame is passed over
abbrev pub SkipsNone : List EndEvent → Type 0
SkipsNone [] = Unit {0}
SkipsNone (Took (Skipped why) ∷ h) = ⊥
SkipsNone (_ ∷ h) = SkipsNone h

-- each count that is told is at most p, and each Sequence at most one above q
abbrev pub IsSound : ℕ → ℕ → List LinkFrame → Type 0
IsSound p q [] = Unit {0}
IsSound p q (Ack upto ∷ frames) = (upto ≤ p) × IsSound p q frames
IsSound p q (Sequence first received ∷ frames) = (first ≤ suc q) × (received_of received ≤ p) × IsSound p q frames
IsSound p q (_ ∷ frames) = IsSound p q frames

-- what x sent is processed by y in order, each message once; and on each link what x tells is sound
pub record Delivers (x y : List EndEvent) : Type 0 where
  pub in_order : IsPrefix (processed_messages y) (sent_messages x)
  pub sound : (l : ℕ) → IsSound (length (processed_messages x)) (length (processed_messages y)) (lent_frames l x)

-- both ways: nothing is refused, each message is processed once and in order, and all of them where the two ends are still
pub record Delivery (t : Terms) (c s : List EndEvent) : Type 0 where
  pub to_server : Delivers c s
  pub to_client : Delivers s c
  pub client_faultless : IsFaultless c
  pub server_faultless : IsFaultless s
  pub client_skips_none : t.version ≡ 3 → SkipsNone c
  pub server_skips_none : t.version ≡ 3 → SkipsNone s
  pub all_to_server : Still (config Client t) (config Server t) c s → (processed_messages s ≡ sent_messages c) × (held_messages (config Client t) c ≡ [])
  pub all_to_client : Still (config Client t) (config Server t) c s → (processed_messages c ≡ sent_messages s) × (held_messages (config Server t) s ≡ [])

-- so it is in every world
abbrev pub HoldsInEveryWorld : Type 0
HoldsInEveryWorld = (limits : Side → Limits) (sizes : Sizes) (t : Terms) (w : List (Event EndEvent))
    → IsWorld limits sizes t w → Delivery t (client_of w) (server_of w)
