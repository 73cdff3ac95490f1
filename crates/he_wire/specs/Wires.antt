-- The wire of this project: its codecs, handshake and framing as the functions that the two ends' theorem speaks of.
use Rattle.std.specs.Prelude.{◌≡◌, ℕ, List, length, Contains}
use Rattle.hm_message.specs.declared.message.Codec.{Codec}
use Rattle.hm_message.specs.declared.message.Message.{Message}
use Rattle.hm_codec.specs.Frames as codecs
use Rattle.hm_codec.specs.Frames.{IsSaid}
use Rattle.hd_delivery.specs.declared.vocabulary.Side.{Side}
use Rattle.hd_delivery.specs.Frames.{LinkFrame}
use Rattle.hd_delivery.specs.Bytes.{Wire}
use Rattle.he_wire.specs.Spelling.{spelling}
use Rattle.he_wire.specs.Readings.{ReadsFirst, ReadsLater}

-- the wire spells frames as this project does, and reads frames of at most this many bytes so
pub record IsHouseWire (most : ℕ) (wire : Wire) : Type 0 where
  pub spells : (codec : Codec) (f : LinkFrame) → wire.spell codec f ≡ spelling codec f
  pub sizes : (codec : Codec) (m : Message) → wire.frame_size codec m ≡ length (codecs.frame_of codec m)
  pub first : (side : Side) (bytes : List ℕ) → ReadsFirst most side bytes (wire.first side bytes)
  pub later : (codec : Codec) (bytes : List ℕ) → ReadsLater most codec bytes (wire.later codec bytes)

-- the frame that is written of each of these messages says the message itself, and can stand on a stream
abbrev pub AreSaid : Codec → List Message → Type 0
AreSaid codec messages = (m : Message) → Contains messages m → IsSaid codec m
