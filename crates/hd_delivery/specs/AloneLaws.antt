-- What holds of an end that writes or reads, and of what is on its links.
use Rattle.std.specs.Prelude.{◌≡◌, ◌≤◌, ◌<◌, ◌+◌, ℕ, suc, false, List, [], ◌∷◌, ◌++◌, length, Some, None}
use Rattle.hd_facts.specs.Prefixes.{IsPrefix}
use Rattle.hd_delivery.specs.declared.vocabulary.Got.{Got}
use Rattle.hd_delivery.specs.declared.vocabulary.Side.{Side}
use Rattle.hd_delivery.specs.Numbers.{most_framing}
use Rattle.hd_delivery.specs.Frames.{LinkFrame}
use Rattle.hd_delivery.specs.Histories as of
use Rattle.hd_delivery.specs.Histories.{EndEvent, Took, Lent, present_link, was_on, codec_of, is_closed, is_shaken, held_messages}
use Rattle.hd_delivery.specs.Processes.{processes}
use Rattle.hd_delivery.specs.Worlds.{Limits, Terms, Event, config}
use Rattle.hd_delivery.specs.Bytes.{Wire, IsSoundWire, Waits, ByteStep, Does, bytes_on, in_frames, unread, unread_count, lent_bytes, IsWorldOverBytes}
use Rattle.hd_delivery.specs.OneHistory.{IsHistory, next_reader}
use Rattle.hd_delivery.specs.HistoryLaws.{StandsThere}
use Rattle.hd_delivery.specs.Following.{Follow}
use Rattle.hd_delivery.specs.Sides.{history, other}
use Rattle.hd_delivery.specs.Alone.{writing, taking, IsOfFrame}

-- ---- an end that writes

-- beside the messages that it holds, an end says at most this many frames in one go: the opening of the link, a Sequence, an Ack, a Ping and a Close
abbrev pub most_of_its_own : ℕ
most_of_its_own = 5

-- an end that writes is done after the messages that it holds, and a few frames of its own
abbrev pub WritesFew : Type 0
WritesFew = (limits : Limits) (wire : Wire) (c : of.Config) (h ss : List ByteStep) → IsHistory limits wire c h → Follow (writing wire c) h ss
    → length ss ≤ length (held_messages c (in_frames wire c h)) + most_of_its_own

-- ---- an end that reads

-- an end takes nothing but frames
abbrev pub FramesAreTaken : Type 0
FramesAreTaken = (c : of.Config) (k : List EndEvent) (s : EndEvent) → processes c k ≡ Some s → IsOfFrame (is_shaken k) s

-- with each frame that is taken the unread bytes of the link become fewer
abbrev pub TakingDrops : Type 0
TakingDrops = (limits : Limits) (wire : Wire) (c : of.Config) (h : List ByteStep) (l : ℕ) (got : Got) → StandsThere limits wire c h l
    → processes c (in_frames wire c h) ≡ Some (Took got) → unread_count wire c l (Does (Took got) ∷ h) < unread_count wire c l h

-- so an end that takes frames is done after as many as it can have bytes unread, and one at which no frame can come
abbrev pub TakesFew : Type 0
TakesFew = (limits : Limits) (wire : Wire) (c : of.Config) (h ss : List ByteStep) → IsSoundWire limits wire → IsHistory limits wire c h
    → Follow (taking wire c) h ss → length ss ≤ suc (limits.frame + most_framing)

-- an end that isn't closed and has taken every frame waits for more bytes, and has room for one
pub record HasRoomFor (limits : Limits) (wire : Wire) (c : of.Config) (h : List ByteStep) (l : ℕ) : Type 0 where
  pub waits : next_reader wire c l (in_frames wire c h) (unread wire c l h) ≡ Waits
  pub room : unread_count wire c l h < limits.frame + most_framing

abbrev pub TakenHasRoom : Type 0
TakenHasRoom = (limits : Limits) (wire : Wire) (c : of.Config) (h : List ByteStep) (l : ℕ) → StandsThere limits wire c h l
    → is_closed c (in_frames wire c h) ≡ false → processes c (in_frames wire c h) ≡ None → HasRoomFor limits wire c h l

-- ---- what is on a link

-- what is lent comes after what was lent on the present link
abbrev pub LentComesLast : Type 0
LentComesLast = (wire : Wire) (c : of.Config) (h : List ByteStep) (l : ℕ) (f : LinkFrame) → present_link (in_frames wire c h) ≡ Some l
    → lent_bytes wire c l (Does (Lent f) ∷ h) ≡ lent_bytes wire c l h ++ wire.spell (codec_of c (in_frames wire c h)) f

-- Other links, and each link at other steps, keep the bytes that were lent there. A server's codec changes at the handshake, before which it lent nothing.
abbrev pub LentStays : Type 0
LentStays = (limits : Limits) (wire : Wire) (c : of.Config) (h : List ByteStep) (s : ByteStep) (l : ℕ) → IsHistory limits wire c (s ∷ h)
    → ((f : LinkFrame) → s ≡ Does (Lent f) → present_link (in_frames wire c h) ≡ Some l → ⊥) → lent_bytes wire c l (s ∷ h) ≡ lent_bytes wire c l h

-- a link on which an end never stood has no bytes of it, and none that it read
abbrev pub UnusedIsEmpty : Type 0
UnusedIsEmpty = (wire : Wire) (c : of.Config) (h : List ByteStep) (l : ℕ) → was_on l (in_frames wire c h) ≡ false
    → (lent_bytes wire c l h ≡ []) × (bytes_on l h ≡ [])

-- in a world over bytes what an end was fed on a link is a first part of what the other end lent there
abbrev pub FedIsLent : Type 0
FedIsLent = (limits : Side → Limits) (wire : Wire) (t : Terms) (w : List (Event ByteStep)) (side : Side) (l : ℕ) → IsWorldOverBytes limits wire t w
    → IsPrefix (bytes_on l (history side w)) (lent_bytes wire (config (other side) t) l (history (other side) w))
