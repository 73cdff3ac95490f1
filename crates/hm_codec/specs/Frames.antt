-- What a frame says in either codec, and what is written of a message.
use Rattle.std.specs.Prelude.{ℕ, ℤ, List}
use Rattle.hf_split.specs.declared.framing.Framing.{Framing}
use Rattle.hf_split.specs.declared.framing.Framing.TheVariants.{Record, Length}
use Rattle.hf_split.specs.Cuts.{CanWrap, wrapped}
use Rattle.hm_message.specs.declared.message.Codec.{Codec}
use Rattle.hm_message.specs.declared.message.Codec.TheVariants.{Json, Pack}
use Rattle.hm_message.specs.declared.message.Message.{Message}
use Rattle.hm_message.specs.Message.{message_image}
use Rattle.hv_pack.specs.Writing.{IsWritable}
use Rattle.hm_json.specs.Says as json
use Rattle.hm_pack.specs.Says as pack
use Rattle.hm_pack.specs.Frame.{array_of}
use Rattle.hm_codec.specs.declared.why.FrameWhy.{FrameWhy}
use Rattle.hm_codec.specs.declared.why.FrameWhy.TheVariants as why

-- JSON frames end with the record separator, MessagePack frames begin with their length
abbrev pub framing_of : Codec → Framing
framing_of Json = Record
framing_of Pack = Length

-- the frame says the message
abbrev pub Says : Codec → List ℕ → Message → Type 0
Says Json frame m = json.Says frame m
Says Pack frame m = pack.Says frame m

-- the frame is of a type that no message has
abbrev pub Unknown : Codec → List ℕ → ℤ → Type 0
Unknown Json frame n = json.Unknown frame n
Unknown Pack frame n = pack.Unknown frame n

-- the frame is refused for this reason, which is one of its codec
abbrev pub Why : Codec → List ℕ → FrameWhy → Type 0
Why Json frame (why.Json refusal) = json.Why frame refusal
Why Pack frame (why.Pack refusal) = pack.Why frame refusal
Why codec frame reason = ⊥

-- the frame that is written of a message
abbrev pub frame_of : Codec → Message → List ℕ
frame_of Json m = json.frame_of m
frame_of Pack m = pack.frame_of m

-- the same as it stands on a stream
abbrev pub framed : Codec → Message → List ℕ
framed codec m = (wrapped (framing_of codec) (frame_of codec m)).spelling

-- what the frame that is written of a message says: JSON has no bytes, but the text of their base64
abbrev pub said_again : Codec → Message → Message
said_again Json m = message_image m
said_again Pack m = m

-- each part of the message has a spelling in the codec
abbrev pub HasSpelling : Codec → Message → Type 0
HasSpelling Json m = Unit {0}
HasSpelling Pack m = IsWritable (array_of m)

-- the frame that is written of the message says the message itself, and can stand on a stream
pub record IsSaid (codec : Codec) (m : Message) : Type 0 where
  pub says : Says codec (frame_of codec m) m
  pub wraps : CanWrap (framing_of codec) (frame_of codec m)
