-- What an auditor keeps of one end, beside its marks: the messages that it was handed to send, and what it said on each link.
use Rattle.std.specs.Prelude.{◌≡◌, ◌≤◌, ℕ, zero, suc, nat_le, Bool, List, [], length, take, map, flat_map, sum_by, slice_get, Option, Some, None, is_some, if◌then◌else◌}
use Rattle.std.specs.Ordering.{nat_cmp}
use Rattle.std.specs.BTreeMap.{BTreeMap, get}
use Rattle.hm_message.specs.declared.message.Codec.{Codec}
use Rattle.hm_message.specs.declared.message.Message.{Message}
use Rattle.hm_codec.specs.Frames.{framed}
use Rattle.hd_delivery.specs.Numbers.{most_messages}
use Rattle.hd_delivery.specs.Frames.{LinkFrame}
use Rattle.hd_delivery.specs.Histories.{Config}
use Rattle.he_wire.specs.Wires.{AreSaid}
use Rattle.hd_trace.specs.Owed.{owed_frame}
use Rattle.ha_audit.specs.declared.auditor.said.SaidFrame.{SaidFrame}
use Rattle.ha_audit.specs.declared.auditor.said.SaidOnLink.{SaidOnLink}
use Rattle.ha_audit.specs.declared.auditor.sent.SentMessage.{SentMessage}

-- ---- what was sent

-- the messages
abbrev pub messages_of : List SentMessage → List Message
messages_of sent = map (λ s. s.message) sent

-- how many bytes the message has with its framing
abbrev pub framed_size : Codec → Message → ℕ
framed_size codec m = length (framed codec m)

-- what is kept are these messages, each with the sum of the sizes up to it, and what is written of each says it
pub record AreSent (codec : Codec) (sent : List SentMessage) (messages : List Message) : Type 0 where
  pub messages_are : messages_of sent ≡ messages
  pub sums : (n : ℕ) (s : SentMessage) → slice_get sent n ≡ Some s → s.sum ≡ sum_by (framed_size codec) (take (suc n) messages)
  pub are_said : AreSaid codec messages

-- the sum that is kept of a message, if it is one
abbrev pub sum_in : Option SentMessage → ℕ
sum_in None = 0
sum_in (Some s) = s.sum

-- the sizes of the first so many messages
abbrev pub sum_of_first : List SentMessage → ℕ → ℕ
sum_of_first sent zero = 0
sum_of_first sent (suc n) = sum_in (slice_get sent n)

-- ---- what was said on links

abbrev pub Links : Type 0
Links = BTreeMap ℕ SaidOnLink

-- what is kept of the link of this name
abbrev pub said_on : Links → ℕ → Option SaidOnLink
said_on links l = get nat_cmp links l

-- whether any is kept of it
abbrev pub has_link : Links → ℕ → Bool
has_link links l = is_some (said_on links l)

-- the bytes that were said there
abbrev pub bytes_of : Option SaidOnLink → List ℕ
bytes_of None = []
bytes_of (Some said) = said.bytes.items

-- and the frames, as they are kept
abbrev pub frames_of : Option SaidOnLink → List SaidFrame
frames_of None = []
frames_of (Some said) = said.frames.items

-- the frame that is kept, of an end that was begun so and sent these messages
abbrev pub frame_said : Config → List Message → SaidFrame → Option LinkFrame
frame_said c messages s = owed_frame c (slice_get messages s.place) (Some s.owed)

-- how many bytes these frames have with their framing
abbrev pub frames_size : (LinkFrame → List ℕ) → List LinkFrame → ℕ
frames_size spell frames = sum_by (λ f. length (spell f)) frames

-- what is kept of a link are these frames, each with the place where its bytes end, and all the bytes
pub record IsSaidOn (spell : LinkFrame → List ℕ) (c : Config) (messages : List Message) (said : Option SaidOnLink) (frames : List LinkFrame) : Type 0 where
  pub frames_are : map (frame_said c messages) (frames_of said) ≡ map Some frames
  pub ends : (n : ℕ) (s : SaidFrame) → slice_get (frames_of said) n ≡ Some s → s.end ≡ frames_size spell (take (suc n) frames)
  pub bytes_are : bytes_of said ≡ flat_map spell frames
  pub few : length (frames_of said) ≤ most_messages

-- of the frames of a link, the one of this place, if all its bytes are among the first so many
abbrev pub whole_frame : Option SaidFrame → ℕ → Option SaidFrame
whole_frame None fed = None
whole_frame (Some s) fed = if nat_le s.end fed then Some s else None

-- where the bytes of a frame end, if it is one
abbrev pub end_in : Option SaidFrame → ℕ
end_in None = 0
end_in (Some s) = s.end

-- how many bytes the first so many frames of a link have
abbrev pub size_of_first : List SaidFrame → ℕ → ℕ
size_of_first frames zero = 0
size_of_first frames (suc n) = end_in (slice_get frames n)
