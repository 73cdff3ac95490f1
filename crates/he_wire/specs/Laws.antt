-- What holds of the wire.
use Rattle.std.specs.Prelude.{◌≡◌, ◌≤◌, ℕ, ℤ, List, [], Some, codes, length}
use Rattle.hf_split.specs.declared.framing.Framing.TheVariants.{Record}
use Rattle.hf_split.specs.declared.splitter.SplitFault.TheVariants.{TooLong, BadLength}
use Rattle.hf_split.specs.Cuts.{Spelled, BeginsWith, IsTooLong, IsBadLength, IsWaiting}
use Rattle.hf_split.specs.Words.{fault_words}
use Rattle.hm_message.specs.declared.message.Codec.{Codec}
use Rattle.hm_message.specs.declared.message.Message.{Message}
use Rattle.hm_codec.specs.declared.why.FrameWhy.{FrameWhy}
use Rattle.hm_codec.specs.Frames.{Says, Unknown, Why, framing_of}
use Rattle.hm_codec.specs.Words.{why_words}
use Rattle.hs_shake.specs.Requests as requests
use Rattle.hs_shake.specs.Requests.{Asks, IsVersion}
use Rattle.hs_shake.specs.Responses as responses
use Rattle.hs_shake.specs.Responses.{Accepts, IsAnswered, refusal_text, refusal_frame}
use Rattle.hs_shake.specs.Words.{shake_words}
use Rattle.hs_shake.specs.declared.shake.ShakeError.{ShakeError}
use Rattle.hd_delivery.specs.declared.vocabulary.Side.{Side}
use Rattle.hd_delivery.specs.declared.vocabulary.Side.TheVariants.{Client, Server}
use Rattle.hd_delivery.specs.Frames.{LinkFrame, Request, Response, Refusal, Foreign, Strange, frame_of}
use Rattle.hd_delivery.specs.Histories.{Config, codec_of}
use Rattle.hd_delivery.specs.Due.{due}
use Rattle.hd_delivery.specs.Worlds.{Limits}
use Rattle.hd_delivery.specs.Bytes.{Wire, Reading, Waits, Reads, Refuses, Stops, IsRead, IsFaithful, IsSoundWire, ByteStep, in_frames}
use Rattle.hd_delivery.specs.OneHistory.{IsHistory}
use Rattle.hd_delivery.specs.HistoryLaws.{IsWithin}
use Rattle.he_wire.specs.Readings.{ReadsFirst, ReadsLater}
use Rattle.he_wire.specs.Spelling.{spelling, with_separator}
use Rattle.he_wire.specs.Wires.{IsHouseWire, AreSaid}

-- the least limit of a frame that an end may have: handshakes and control frames have room in it
abbrev pub shortest_limit : ℕ
shortest_limit = 256

-- for each limit there is such a wire
abbrev pub HasWire : Type 0
HasWire = (most : ℕ) → (wire : Wire) × IsHouseWire most wire

-- bytes are read in one way
abbrev pub ReadsOnce : Type 0
ReadsOnce = (most : ℕ) (bytes : List ℕ) (x y : Reading)
    → ((side : Side) → ReadsFirst most side bytes x → ReadsFirst most side bytes y → x ≡ y)
    × ((codec : Codec) → ReadsLater most codec bytes x → ReadsLater most codec bytes y → x ≡ y)

-- What a wire's readers say of bytes, by what these begin with. A fault's place is not told.
pub record IsReadSo (most : ℕ) (wire : Wire) : Type 0 where
  pub message : (codec : Codec) (bytes : List ℕ) (item : Spelled) (m : Message) → BeginsWith (framing_of codec) most bytes item
      → Says codec item.frame m → wire.later codec bytes ≡ Reads (frame_of m) (length item.spelling)
  pub foreign : (codec : Codec) (bytes : List ℕ) (item : Spelled) (n : ℤ) → BeginsWith (framing_of codec) most bytes item
      → Unknown codec item.frame n → wire.later codec bytes ≡ Reads (Foreign n) (length item.spelling)
  pub refused : (codec : Codec) (bytes : List ℕ) (item : Spelled) (why : FrameWhy) → BeginsWith (framing_of codec) most bytes item
      → Why codec item.frame why → wire.later codec bytes ≡ Refuses (why_words why) (length item.spelling)
  pub too_long : (codec : Codec) (bytes : List ℕ) (at : ℕ) → IsTooLong (framing_of codec) most bytes
      → wire.later codec bytes ≡ Stops (fault_words (TooLong at))
  pub bad_length : (codec : Codec) (bytes : List ℕ) (at : ℕ) → IsBadLength (framing_of codec) bytes
      → wire.later codec bytes ≡ Stops (fault_words (BadLength at))
  pub waits : (codec : Codec) (bytes : List ℕ) → IsWaiting (framing_of codec) most bytes → wire.later codec bytes ≡ Waits
  pub request : (bytes : List ℕ) (item : Spelled) (codec : Codec) (version : ℕ) → BeginsWith Record most bytes item
      → Asks item.frame codec version → wire.first Server bytes ≡ Reads (Request codec version) (length item.spelling)
  pub no_request : (bytes : List ℕ) (item : Spelled) (e : ShakeError) → BeginsWith Record most bytes item
      → requests.WhyNot item.frame e → wire.first Server bytes ≡ Reads (Strange (shake_words e) (refusal_text e)) (length item.spelling)
  pub response : (bytes : List ℕ) (item : Spelled) → BeginsWith Record most bytes item
      → Accepts item.frame → wire.first Client bytes ≡ Reads Response (length item.spelling)
  pub no_response : (bytes : List ℕ) (item : Spelled) (e : ShakeError) → BeginsWith Record most bytes item
      → responses.WhyNot item.frame e → wire.first Client bytes ≡ Reads (Strange (shake_words e) []) (length item.spelling)
  pub long_shake : (side : Side) (bytes : List ℕ) (at : ℕ) → IsTooLong Record most bytes → wire.first side bytes ≡ Stops (fault_words (TooLong at))
  pub shake_waits : (side : Side) (bytes : List ℕ) → IsWaiting Record most bytes → wire.first side bytes ≡ Waits

-- each such wire reads so
abbrev pub BytesAreRead : Type 0
BytesAreRead = (most : ℕ) (wire : Wire) → IsHouseWire most wire → IsReadSo most wire

-- its readers never wait on a full buffer, and what they say stays so
abbrev pub WireIsSound : Type 0
WireIsSound = (limits : Limits) (wire : Wire) → IsHouseWire limits.frame wire → IsSoundWire limits wire

-- what two ends say is read as itself, in both codecs and all versions, if the frames of their messages say these messages
abbrev pub WireIsFaithful : Type 0
WireIsFaithful = (limits : Limits) (wire : Wire) (codec : Codec) (version : ℕ) (messages : List Message)
    → shortest_limit ≤ limits.frame → IsVersion version → AreSaid codec messages → IsHouseWire limits.frame wire
    → IsFaithful limits wire codec version messages

-- a refusal is spelled as the handshake answers it
abbrev pub AnswersAreSpelled : Type 0
AnswersAreSpelled = (codec : Codec) (e : ShakeError) → spelling codec (Refusal (refusal_text e)) ≡ with_separator (refusal_frame e)

-- the client reads the answer of a refused request as a handshake that is refused
abbrev pub AnswersAreRead : Type 0
AnswersAreRead = (limits : Limits) (wire : Wire) (codec : Codec) (e : ShakeError)
    → shortest_limit ≤ limits.frame → IsAnswered e → IsHouseWire limits.frame wire
    → IsRead (wire.first Client) (wire.spell codec (Refusal (refusal_text e))) (Strange (codes "Refused") [])

-- what an end has to say over such a wire is no more than the greatest frame with its framing
abbrev pub SaysNoMore : Type 0
SaysNoMore = (limits : Limits) (wire : Wire) (c : Config) (h : List ByteStep) (f : LinkFrame)
    → shortest_limit ≤ limits.frame → IsVersion c.version → IsHouseWire limits.frame wire
    → IsHistory limits wire c h → due c (in_frames wire c h) ≡ Some f → IsWithin limits (wire.spell (codec_of c (in_frames wire c h)) f)
