-- What the answers of the readers tell of the bytes that a splitter holds.
use Rattle.std.specs.Prelude.{◌≡◌, ◌⊎◌, ℕ, List, [], length, Option, None, Some, Result, Ok, Err}
use Rattle.hf_split.specs.declared.splitter.SplitFault.{SplitFault}
use Rattle.hf_split.specs.Cuts.{Spelled, BeginsWith}
use Rattle.hf_split.specs.Held.{Held, IsFaultOf}
use Rattle.hf_split.specs.Words.{fault_words}
use Rattle.hm_message.specs.declared.message.Codec.{Codec}
use Rattle.hm_message.specs.declared.message.Read.{Read}
use Rattle.hm_message.specs.declared.message.Read.TheVariants.{Message, Unknown}
use Rattle.hm_codec.specs.declared.why.FrameWhy.{FrameWhy}
use Rattle.hm_codec.specs.declared.why.FrameWhy.TheVariants.{Split}
use Rattle.hm_codec.specs.Frames.{Says, Unknown as IsUnknown, Why}
use Rattle.hm_codec.specs.Words.{why_words}
use Rattle.hs_shake.specs.declared.shake.ShakeError.{ShakeError}
use Rattle.hs_shake.specs.Requests as requests
use Rattle.hs_shake.specs.Requests.{Asks, IsVersion}
use Rattle.hs_shake.specs.Responses as responses
use Rattle.hs_shake.specs.Responses.{Accepts, IsAnswered, refusal_text}
use Rattle.hs_shake.specs.Words.{shake_words}
use Rattle.hd_delivery.specs.declared.vocabulary.Side.{Side}
use Rattle.hd_delivery.specs.declared.vocabulary.Side.TheVariants.{Client, Server}
use Rattle.hd_delivery.specs.Frames as frames
use Rattle.hd_delivery.specs.Frames.{LinkFrame, frame_of}
use Rattle.hd_delivery.specs.Bytes.{Wire, Reading, Waits, Reads, Refuses, Stops}
use Rattle.he_wire.specs.declared.reading.LinkFault.{LinkFault}
use Rattle.he_wire.specs.declared.reading.LinkFault.TheVariants as link
use Rattle.he_wire.specs.declared.reading.Handshake.{Handshake}
use Rattle.he_wire.specs.declared.reading.Handshake.TheVariants as handshake
use Rattle.he_wire.specs.declared.reading.HandshakeFault.{HandshakeFault}
use Rattle.he_wire.specs.declared.reading.HandshakeFault.TheVariants as shaking
use Rattle.he_wire.specs.Readings.{ReadsFirst, ReadsLater}
use Rattle.he_wire.specs.Wires.{IsHouseWire}

-- the bytes held begin with a frame
abbrev pub Begins : Held → Type 0
Begins held = (item : Spelled) × BeginsWith held.framing held.most held.bytes item

-- the bytes held begin with a frame of which this holds, and the reading is of it
abbrev pub IsOfFrame : Held → (List ℕ → Type 0) → (ℕ → Reading) → Reading → Type 0
IsOfFrame held Holds of_size reading =
    (item : Spelled) × (BeginsWith held.framing held.most held.bytes item × Holds item.frame × (reading ≡ of_size (length item.spelling)))

-- no frame can begin with the bytes held, for this reason
abbrev pub IsOfFault : Held → FrameWhy → Reading → Type 0
IsOfFault held why reading = (fault : SplitFault) × (IsFaultOf held fault × (why ≡ Split fault) × (reading ≡ Stops (why_words why)))

-- ---- after the handshake

-- the answer tells this reading. It is out of memory only at a whole frame, of which nothing is told then
abbrev pub TellsLater : Codec → Held → Result (Option Read) LinkFault → Reading → Type 0
TellsLater codec held (Ok None) reading = reading ≡ Waits
TellsLater codec held (Ok (Some (Message m))) reading = IsOfFrame held (λ frame. Says codec frame m) (Reads (frame_of m)) reading
TellsLater codec held (Ok (Some (Unknown n))) reading = IsOfFrame held (λ frame. IsUnknown codec frame n) (Reads (frames.Foreign n)) reading
TellsLater codec held (Err (link.Refused at why)) reading =
    (at ≡ held.place) × (IsOfFault held why reading ⊎ IsOfFrame held (λ frame. Why codec frame why) (Refuses (why_words why)) reading)
TellsLater codec held (Err link.NoMemory) reading = Begins held

-- the answer tells what the bytes held begin with, if it isn't out of memory
abbrev pub GivesLater : Codec → Held → Result (Option Read) LinkFault → Type 0
GivesLater codec held (Err link.NoMemory) = Begins held
GivesLater codec held answer = (reading : Reading) × (ReadsLater held.most codec held.bytes reading × TellsLater codec held answer reading)

-- the answer tells what this project's wire reads
abbrev pub TellsWireLater : Codec → Held → Result (Option Read) LinkFault → Type 0
TellsWireLater codec held answer =
    (wire : Wire) → IsHouseWire held.most wire → TellsLater codec held answer (wire.later codec held.bytes)

-- ---- the handshake

-- what this side answers to what it refuses
abbrev pub answer_of : Side → ShakeError → List ℕ
answer_of Client e = []
answer_of Server e = refusal_text e

-- a server refuses only what it can answer
abbrev pub IsOwed : Side → ShakeError → Type 0
IsOwed Client e = Unit {0}
IsOwed Server e = IsAnswered e

-- this side reads the frame as this handshake
abbrev pub IsHandshake : Side → Handshake → List ℕ → Type 0
IsHandshake Server (handshake.Request shake) frame = Asks frame shake.codec shake.version
IsHandshake Client handshake.Response frame = Accepts frame
IsHandshake side g frame = ⊥

-- this side refuses the frame as a handshake for this reason
abbrev pub IsNoHandshake : Side → ShakeError → List ℕ → Type 0
IsNoHandshake Server e frame = requests.WhyNot frame e × IsAnswered e
IsNoHandshake Client e frame = responses.WhyNot frame e

-- the answer tells this reading. It is out of memory only at a whole frame, of which nothing is told then
abbrev pub TellsFirst : Side → Held → Result (Option Handshake) HandshakeFault → Reading → Type 0
TellsFirst side held (Ok None) reading = reading ≡ Waits
TellsFirst side held (Ok (Some (handshake.Request shake))) reading =
    (side ≡ Server) × IsVersion shake.version
    × IsOfFrame held (λ frame. Asks frame shake.codec shake.version) (Reads (frames.Request shake.codec shake.version)) reading
TellsFirst side held (Ok (Some handshake.Response)) reading = (side ≡ Client) × IsOfFrame held Accepts (Reads frames.Response) reading
TellsFirst side held (Err (shaking.Split fault)) reading = IsFaultOf held fault × (reading ≡ Stops (fault_words fault))
TellsFirst side held (Err (shaking.Shake e)) reading =
    IsOwed side e × IsOfFrame held (IsNoHandshake side e) (Reads (frames.Strange (shake_words e) (answer_of side e))) reading
TellsFirst side held (Err shaking.NoMemory) reading = Begins held

-- the answer tells what the bytes held begin with, if it isn't out of memory
abbrev pub GivesFirst : Side → Held → Result (Option Handshake) HandshakeFault → Type 0
GivesFirst side held (Err shaking.NoMemory) = Begins held
GivesFirst side held answer = (reading : Reading) × (ReadsFirst held.most side held.bytes reading × TellsFirst side held answer reading)

-- the answer tells what this project's wire reads
abbrev pub TellsWireFirst : Side → Held → Result (Option Handshake) HandshakeFault → Type 0
TellsWireFirst side held answer =
    (wire : Wire) → IsHouseWire held.most wire → TellsFirst side held answer (wire.first side held.bytes)
