-- What the bytes of a link begin with.
use Rattle.std.specs.Prelude.{◌≡◌, ◌⊎◌, ℕ, ℤ, List, [], codes, length}
use Rattle.hf_split.specs.declared.framing.Framing.{Framing}
use Rattle.hf_split.specs.declared.framing.Framing.TheVariants.{Record}
use Rattle.hf_split.specs.Cuts.{Spelled, BeginsWith, IsTooLong, IsBadLength, IsWaiting}
use Rattle.hm_message.specs.declared.message.Codec.{Codec}
use Rattle.hm_message.specs.declared.message.Message.{Message}
use Rattle.hm_codec.specs.declared.why.FrameWhy.{FrameWhy}
use Rattle.hm_codec.specs.Frames.{Says, Unknown, Why, framing_of}
use Rattle.hm_codec.specs.Words.{why_words}
use Rattle.hs_shake.specs.declared.shake.ShakeError.{ShakeError}
use Rattle.hs_shake.specs.Requests as requests
use Rattle.hs_shake.specs.Responses as responses
use Rattle.hs_shake.specs.Responses.{refusal_text}
use Rattle.hs_shake.specs.Words.{shake_words}
use Rattle.hd_delivery.specs.declared.vocabulary.Side.{Side}
use Rattle.hd_delivery.specs.declared.vocabulary.Side.TheVariants.{Client, Server}
use Rattle.hd_delivery.specs.Frames.{LinkFrame, Request, Response, Foreign, Strange, frame_of}
use Rattle.hd_delivery.specs.Bytes.{Reading, Waits, Reads, Refuses, Stops}

-- no frame can begin with these bytes, in the words of a report
abbrev pub IsStopped : Framing → ℕ → List ℕ → List ℕ → Type 0
IsStopped framing most bytes words =
    (IsTooLong framing most bytes × (words ≡ codes "TooLong")) ⊎ (IsBadLength framing bytes × (words ≡ codes "BadLength"))

-- the bytes begin with a frame of this many bytes with its framing, of which this holds
abbrev pub BeginsWithOne : Framing → ℕ → List ℕ → ℕ → (List ℕ → Type 0) → Type 0
BeginsWithOne framing most bytes size Holds = (item : Spelled) × (BeginsWith framing most bytes item × (size ≡ length item.spelling) × Holds item.frame)

-- ---- frames after the handshake

-- a hub message, or one of a type that no message has
abbrev pub IsLaterFrame : Codec → LinkFrame → List ℕ → Type 0
IsLaterFrame codec f frame = ((m : Message) × (Says codec frame m × (f ≡ frame_of m))) ⊎ ((n : ℤ) × (Unknown codec frame n × (f ≡ Foreign n)))

-- the frame is refused, in these words
abbrev pub IsRefused : Codec → List ℕ → List ℕ → Type 0
IsRefused codec words frame = (why : FrameWhy) × (Why codec frame why × (words ≡ why_words why))

-- what a reader of frames up to this size makes of the bytes
abbrev pub ReadsLater : ℕ → Codec → List ℕ → Reading → Type 0
ReadsLater most codec bytes Waits = IsWaiting (framing_of codec) most bytes
ReadsLater most codec bytes (Reads f size) = BeginsWithOne (framing_of codec) most bytes size (IsLaterFrame codec f)
ReadsLater most codec bytes (Refuses words size) = BeginsWithOne (framing_of codec) most bytes size (IsRefused codec words)
ReadsLater most codec bytes (Stops words) = IsStopped (framing_of codec) most bytes words

-- ---- the first frame of a first link

-- the frame as this side reads it: a handshake, or refused as one, in the words of a report and with a server's answer
abbrev pub IsFirstFrame : Side → LinkFrame → List ℕ → Type 0
IsFirstFrame Server (Request codec version) frame = requests.Asks frame codec version
IsFirstFrame Server (Strange words answer) frame =
    (e : ShakeError) × (requests.WhyNot frame e × (words ≡ shake_words e) × (answer ≡ refusal_text e))
IsFirstFrame Client Response frame = responses.Accepts frame
IsFirstFrame Client (Strange words answer) frame =
    (e : ShakeError) × (responses.WhyNot frame e × (words ≡ shake_words e) × (answer ≡ []))
IsFirstFrame side f frame = ⊥

-- what this side's reader of the handshake makes of the bytes
abbrev pub ReadsFirst : ℕ → Side → List ℕ → Reading → Type 0
ReadsFirst most side bytes Waits = IsWaiting Record most bytes
ReadsFirst most side bytes (Reads f size) = BeginsWithOne Record most bytes size (IsFirstFrame side f)
ReadsFirst most side bytes (Refuses words size) = ⊥
ReadsFirst most side bytes (Stops words) = IsStopped Record most bytes words
