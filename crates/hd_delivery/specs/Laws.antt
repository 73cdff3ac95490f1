-- What crates above cite of these definitions.
use Rattle.std.specs.Prelude.{◌≡◌, ◌≤◌, ◌-◌, nat_le, length, Some, if◌then◌else◌, ℕ, true, List, [], ◌∷◌, ◌++◌, Contains}
use Rattle.hm_message.specs.declared.message.Message.{Message}
use Rattle.hm_message.specs.Message.{is_sequenced}
use Rattle.hd_facts.specs.Prefixes.{IsPrefix}
use Rattle.hd_delivery.specs.declared.vocabulary.Got.TheVariants.{Shaken}
use Rattle.hd_delivery.specs.declared.vocabulary.Side.{Side}
use Rattle.hd_delivery.specs.declared.vocabulary.Side.TheVariants.{Client, Server}
use Rattle.hd_delivery.specs.Frames.{LinkFrame, Numbered, frame_of}
use Rattle.hd_delivery.specs.Histories.{Config, EndEvent, Fed, Took, present_link, was_on, first_link, link_count, fed_frames, lent_frames, taken_count, codec_of, is_shaken, is_resumable, is_closed, state, sent_messages, processed_messages, acked_count, held_messages, most_lent, moment, is_silence}
use Rattle.hd_delivery.specs.Due.{due}
use Rattle.hd_delivery.specs.Worlds.{Limits, CanBeSent, Terms, Event, config, client_of, server_of}
use Rattle.hd_delivery.specs.Bytes.{Wire, IsSoundWire, cut, frames, ByteStep, Does, bare_steps, bytes_on, in_frames, sizes_of, IsRead, IsFaithful, client_in_frames, server_in_frames, IsWorldOverBytes, DeliveryOverBytes}

-- a message is numbered on a link if it is sequenced, and only then
abbrev pub SequencedIsNumbered : Type 0
SequencedIsNumbered = (m : Message) → (is_sequenced m ≡ true → frame_of m ≡ Numbered m) × (frame_of m ≡ Numbered m → is_sequenced m ≡ true)

-- what sound readers cut off some bytes are the first cuts of these bytes with more after them
abbrev pub CutsGrow : Type 0
CutsGrow = (limits : Limits) (wire : Wire) (c : Config) (h : List EndEvent) (l : ℕ) (bytes more : List ℕ) → IsSoundWire limits wire
    → IsPrefix (cut wire c h l bytes) (cut wire c h l (bytes ++ more))

-- only bytes are fed, and no handshake is taken after a second link
abbrev pub IsInOrder : List ByteStep → Type 0
IsInOrder [] = Unit {0}
IsInOrder (Does (Fed piece) ∷ h) = ⊥
IsInOrder (Does (Took (Shaken codec version)) ∷ h) = IsInOrder h × (link_count (bare_steps h) ≤ 1)
IsInOrder (_ ∷ h) = IsInOrder h

-- the frames that an end was fed on a link are those that sound readers cut off its bytes there
abbrev pub FedIsCut : Type 0
FedIsCut = (limits : Limits) (wire : Wire) (c : Config) (h : List ByteStep) (l : ℕ) → IsSoundWire limits wire → IsInOrder h
    → fed_frames l (in_frames wire c h) ≡ frames (cut wire c (in_frames wire c h) l (bytes_on l h))

-- the two histories of an end say the same of all but which frames were fed, and what these make
pub record IsSameButFed (c : Config) (h k : List EndEvent) : Type 0 where
  pub link : present_link h ≡ present_link k
  pub first : first_link h ≡ first_link k
  pub names : (l : ℕ) → was_on l h ≡ was_on l k
  pub codec : codec_of c h ≡ codec_of c k
  pub shakes : is_shaken h ≡ is_shaken k
  pub keeps : is_resumable c h ≡ is_resumable c k
  pub ends : is_closed c h ≡ is_closed c k
  pub stands : state c h ≡ state c k
  pub takes : (l : ℕ) → taken_count l h ≡ taken_count l k
  pub lends : (l : ℕ) → lent_frames l h ≡ lent_frames l k
  pub owes : due c h ≡ due c k
  pub sends : sent_messages h ≡ sent_messages k
  pub processes : processed_messages h ≡ processed_messages k
  pub acks : acked_count h ≡ acked_count k
  pub holds : held_messages c h ≡ held_messages c k
  pub links : link_count h ≡ link_count k
  pub furthest : most_lent h ≡ most_lent k
  pub moves : moment h ≡ moment k
  pub silent : (now : ℕ) → is_silence c now h ≡ is_silence c now k

-- so it is of a history in frames and the same without what was fed
abbrev pub FedIsUnseen : Type 0
FedIsUnseen = (wire : Wire) (c : Config) (h : List ByteStep) → IsSameButFed c (in_frames wire c h) (bare_steps h)

-- each message that an end sent is read as itself, in the codec that the end speaks
abbrev pub AreReadAsSent : Limits → Wire → Config → List EndEvent → Type 0
AreReadAsSent limits wire c k = (m : Message) → Contains (sent_messages k) m → CanBeSent limits (sizes_of wire) (codec_of c k) m
    → IsRead (wire.later (codec_of c k)) (wire.spell (codec_of c k) (Numbered m)) (Numbered m)

-- Delivery over bytes asks for no more than that, of each end by itself: in its own codec, which is the one that the client asks for.
abbrev pub HoldsAsSent : Type 0
HoldsAsSent = (limits : Side → Limits) (wire : Wire) (t : Terms) (w : List (Event ByteStep))
    → IsFaithful (limits Client) wire t.codec t.version []
    → AreReadAsSent (limits Client) wire (config Client t) (client_in_frames wire t w) → AreReadAsSent (limits Server) wire (config Server t) (server_in_frames wire t w)
    → IsWorldOverBytes limits wire t w → DeliveryOverBytes wire t w

-- for then the wire is faithful to all that the two ends sent
abbrev pub AllIsRead : Type 0
AllIsRead = (limits : Side → Limits) (wire : Wire) (t : Terms) (w : List (Event ByteStep))
    → IsFaithful (limits Client) wire t.codec t.version []
    → AreReadAsSent (limits Client) wire (config Client t) (client_in_frames wire t w) → AreReadAsSent (limits Server) wire (config Server t) (server_in_frames wire t w)
    → IsWorldOverBytes limits wire t w
    → IsFaithful (limits Client) wire t.codec t.version (sent_messages (client_in_frames wire t w) ++ sent_messages (server_in_frames wire t w))

-- of these frames, one after the other, those whose bytes lie within so many
abbrev pub whole_frames : (LinkFrame → List ℕ) → List LinkFrame → ℕ → List LinkFrame
whole_frames spell [] n = []
whole_frames spell (f ∷ frames) n =
    if nat_le (length (spell f)) n then f ∷ whole_frames spell frames (n - length (spell f)) else []

-- what this end was fed in frames on its link are the frames that the other end lent there whose bytes were all fed
abbrev pub AreWholeFrames : Wire → Terms → Config → List ByteStep → List ByteStep → Config → Type 0
AreWholeFrames wire t c h other oc = (l : ℕ) → present_link (in_frames wire c h) ≡ Some l
    → fed_frames l (in_frames wire c h)
    ≡ whole_frames (wire.spell t.codec) (lent_frames l (in_frames wire oc other)) (length (bytes_on l h))

-- so it is at both ends of each world over bytes whose readers are faithful to what is sent there
abbrev pub FedIsWhole : Type 0
FedIsWhole = (limits : Side → Limits) (wire : Wire) (t : Terms) (w : List (Event ByteStep))
    → IsFaithful (limits Client) wire t.codec t.version
    (sent_messages (client_in_frames wire t w) ++ sent_messages (server_in_frames wire t w))
    → IsWorldOverBytes limits wire t w
    → AreWholeFrames wire t (config Client t) (client_of w) (server_of w) (config Server t)
    × AreWholeFrames wire t (config Server t) (server_of w) (client_of w) (config Client t)
