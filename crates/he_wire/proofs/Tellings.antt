-- An answer tells the reading of the bytes held.
use Rattle.std.proofs.Common.{◌≡◌, inl, inr, ℕ, List, [], refl, subst, Option, None, Some, Result, Ok, Err}
use Rattle.std.specs.Prelude.{ℤ, length}
use Rattle.hf_split.specs.declared.framing.Framing.{Framing}
use Rattle.hf_split.specs.declared.framing.Framing.TheVariants.{Record}
use Rattle.hf_split.specs.declared.splitter.SplitFault.{SplitFault}
use Rattle.hf_split.specs.declared.splitter.SplitFault.TheVariants.{TooLong, BadLength}
use Rattle.hf_split.specs.Cuts.{Spelled, BeginsWith, IsTooLong, IsBadLength, IsWaiting}
use Rattle.hf_split.specs.Held.{Held, IsFaultOf}
use Rattle.hf_split.specs.Words.{fault_words}
use Rattle.hm_message.specs.declared.message.Codec.{Codec}
use Rattle.hm_message.specs.declared.message.Message.{Message}
use Rattle.hm_message.specs.declared.message.Read.{Read}
use Rattle.hm_message.specs.declared.message.Read.TheVariants as read
use Rattle.hm_message.specs.Message.{Fits}
use Rattle.hm_message.specs.Reads.{MessageIs, UnknownIs}
use Rattle.hm_codec.specs.declared.why.FrameWhy.{FrameWhy}
use Rattle.hm_codec.specs.declared.why.FrameWhy.TheVariants as why
use Rattle.hm_codec.specs.Frames.{Says, Unknown, Why, framing_of}
use Rattle.hm_codec.specs.Words.{why_words}
use Rattle.hs_shake.specs.declared.shake.ShakeError.{ShakeError}
use Rattle.hs_shake.specs.declared.shake.ShakeError.TheVariants as shake
use Rattle.hs_shake.specs.Refusals.{MemoryOr}
use Rattle.hs_shake.specs.Words.{shake_words}
use Rattle.hd_delivery.specs.declared.vocabulary.Side.{Side}
use Rattle.hd_delivery.specs.declared.vocabulary.Side.TheVariants.{Client, Server}
use Rattle.hd_delivery.specs.Frames as frames
use Rattle.hd_delivery.specs.Frames.{frame_of}
use Rattle.hd_delivery.specs.Bytes.{Wire, Reading, Waits, Reads, Refuses, Stops}
use Rattle.he_wire.specs.declared.reading.LinkFault.{LinkFault}
use Rattle.he_wire.specs.declared.reading.LinkFault.TheVariants as link
use Rattle.he_wire.specs.declared.reading.Handshake.{Handshake}
use Rattle.he_wire.specs.declared.reading.Handshake.TheVariants as handshake
use Rattle.he_wire.specs.declared.reading.HandshakeFault.{HandshakeFault}
use Rattle.he_wire.specs.declared.reading.HandshakeFault.TheVariants as shaking
use Rattle.he_wire.specs.Faults.{of_shake}
use Rattle.he_wire.specs.Readings.{IsStopped, ReadsFirst, ReadsLater}
use Rattle.he_wire.specs.Wires.{IsHouseWire}
use Rattle.he_wire.specs.Laws.{ReadsOnce}
use Rattle.he_wire.specs.Gives.{GivesLater, GivesFirst, TellsLater, TellsFirst, TellsWireLater, TellsWireFirst, IsHandshake, IsNoHandshake}

abbrev Begins : Held → List ℕ → List ℕ → Type 0
Begins held spelling frame = BeginsWith held.framing held.most held.bytes (record { spelling = spelling; frame = frame })

-- the same in the framing that this is
begins_in : (held : Held) (framing : Framing) (spelling frame : List ℕ) → held.framing ≡ framing → Begins held spelling frame
    → BeginsWith framing held.most held.bytes (record { spelling = spelling; frame = frame })
begins_in held framing spelling frame same begins = subst (λ f. BeginsWith f held.most held.bytes (record { spelling = spelling; frame = frame })) same begins

waiting_in : (held : Held) (framing : Framing) → held.framing ≡ framing → IsWaiting held.framing held.most held.bytes → IsWaiting framing held.most held.bytes
waiting_in held framing same waiting = subst (λ f. IsWaiting f held.most held.bytes) same waiting

stopped_in : (held : Held) (framing : Framing) (fault : SplitFault) → held.framing ≡ framing → IsFaultOf held fault
    → IsStopped framing held.most held.bytes (fault_words fault)
stopped_in held framing (TooLong at) same is = inl (subst (λ f. IsTooLong f held.most held.bytes) same is.1, refl)
stopped_in held framing (BadLength at) same is = inr (subst (λ f. IsBadLength f held.bytes) same is.1, refl)

-- ---- after the handshake

pub later_waits : (codec : Codec) (held : Held) → IsWaiting held.framing held.most held.bytes
    → held.framing ≡ framing_of codec → GivesLater codec held (Ok None)
later_waits codec held waiting same = (Waits, (waiting_in held (framing_of codec) same waiting, refl))

later_message : (codec : Codec) (held : Held) (spelling frame : List ℕ) (m : Message) → Begins held spelling frame → Says codec frame m
    → held.framing ≡ framing_of codec → GivesLater codec held (Ok (Some (read.Message m)))
later_message codec held spelling frame m begins says same =
    let item : Spelled = record { spelling = spelling; frame = frame } in (
      Reads (frame_of m) (length spelling),
      ((item, (begins_in held (framing_of codec) spelling frame same begins, refl, inl (m, (says, refl)))), (item, (begins, says, refl))),
    )

later_unknown : (codec : Codec) (held : Held) (spelling frame : List ℕ) (n : ℤ) → Begins held spelling frame → Unknown codec frame n
    → held.framing ≡ framing_of codec → GivesLater codec held (Ok (Some (read.Unknown n)))
later_unknown codec held spelling frame n begins is same =
    let item : Spelled = record { spelling = spelling; frame = frame } in (
      Reads (frames.Foreign n) (length spelling),
      ((item, (begins_in held (framing_of codec) spelling frame same begins, refl, inr (n, (is, refl)))), (item, (begins, is, refl))),
    )

pub later_read : (codec : Codec) (held : Held) (spelling frame : List ℕ) (r : Read) → Begins held spelling frame
    → MessageIs r (λ m. Says codec frame m × Fits m) → UnknownIs r (λ n. Unknown codec frame n)
    → held.framing ≡ framing_of codec → GivesLater codec held (Ok (Some r))
later_read codec held spelling frame (read.Message m) begins says is same = later_message codec held spelling frame m begins says.0 same
later_read codec held spelling frame (read.Unknown n) begins says is same = later_unknown codec held spelling frame n begins is same

pub later_refused : (codec : Codec) (held : Held) (spelling frame : List ℕ) (at : ℕ) (reason : FrameWhy) → Begins held spelling frame → Why codec frame reason
    → at ≡ held.place → held.framing ≡ framing_of codec → GivesLater codec held (Err (link.Refused at reason))
later_refused codec held spelling frame at reason begins refused place same =
    let item : Spelled = record { spelling = spelling; frame = frame } in (
      Refuses (why_words reason) (length spelling),
      ((item, (begins_in held (framing_of codec) spelling frame same begins, refl, (reason, (refused, refl)))), (place, inr (item, (begins, refused, refl)))),
    )

pub later_stopped : (codec : Codec) (held : Held) (at : ℕ) (fault : SplitFault) → IsFaultOf held fault
    → at ≡ held.place → held.framing ≡ framing_of codec → GivesLater codec held (Err (link.Refused at (why.Split fault)))
later_stopped codec held at fault is place same = (Stops (fault_words fault), (stopped_in held (framing_of codec) fault same is, (place, inl (fault, (is, refl, refl)))))

-- ---- the handshake

pub first_waits : (side : Side) (held : Held) → IsWaiting held.framing held.most held.bytes → held.framing ≡ Record → GivesFirst side held (Ok None)
first_waits side held waiting same = (Waits, (waiting_in held Record same waiting, refl))

pub first_stopped : (side : Side) (held : Held) (fault : SplitFault) → IsFaultOf held fault → held.framing ≡ Record
    → GivesFirst side held (Err (shaking.Split fault))
first_stopped side held fault is same = (Stops (fault_words fault), (stopped_in held Record fault same is, (is, refl)))

pub first_read : (side : Side) (held : Held) (spelling frame : List ℕ) (g : Handshake) → Begins held spelling frame → IsHandshake side g frame
    → held.framing ≡ Record → GivesFirst side held (Ok (Some g))
first_read Server held spelling frame (handshake.Request shake) begins is same =
    let item : Spelled = record { spelling = spelling; frame = frame } in (
      Reads (frames.Request shake.codec shake.version) (length spelling),
      ((item, (begins_in held Record spelling frame same begins, refl, is)), (refl, is.1.3, (item, (begins, is, refl)))),
    )
first_read Client held spelling frame handshake.Response begins is same =
    let item : Spelled = record { spelling = spelling; frame = frame } in (
      Reads frames.Response (length spelling),
      ((item, (begins_in held Record spelling frame same begins, refl, is)), (refl, (item, (begins, is, refl)))),
    )
first_read Server held spelling frame handshake.Response begins is same = absurd is
first_read Client held spelling frame (handshake.Request shake) begins is same = absurd is

refused_first : (side : Side) (held : Held) (spelling frame : List ℕ) (e : ShakeError) → Begins held spelling frame → IsNoHandshake side e frame
    → held.framing ≡ Record → GivesFirst side held (Err (shaking.Shake e))
refused_first Server held spelling frame e begins is same =
    let item : Spelled = record { spelling = spelling; frame = frame } in (
      Reads (frames.Strange (shake_words e) _) (length spelling),
      ((item, (begins_in held Record spelling frame same begins, refl, (e, (is.0, refl, refl)))), (is.1, (item, (begins, is, refl)))),
    )
refused_first Client held spelling frame e begins is same =
    let item : Spelled = record { spelling = spelling; frame = frame } in (
      Reads (frames.Strange (shake_words e) []) (length spelling),
      ((item, (begins_in held Record spelling frame same begins, refl, (e, (is, refl, refl)))), (tt, (item, (begins, is, refl)))),
    )

pub first_refused : (side : Side) (held : Held) (spelling frame : List ℕ) (e : ShakeError) → Begins held spelling frame
    → MemoryOr e (IsNoHandshake side e frame) → held.framing ≡ Record → GivesFirst side held (Err (of_shake e))
first_refused side held spelling frame shake.NotJson begins is same = refused_first side held spelling frame shake.NotJson begins is same
first_refused side held spelling frame (shake.Missing f) begins is same = refused_first side held spelling frame (shake.Missing f) begins is same
first_refused side held spelling frame (shake.Wrong f) begins is same = refused_first side held spelling frame (shake.Wrong f) begins is same
first_refused side held spelling frame shake.Unspoken begins is same = refused_first side held spelling frame shake.Unspoken begins is same
first_refused side held spelling frame (shake.Version n) begins is same = refused_first side held spelling frame (shake.Version n) begins is same
first_refused side held spelling frame (shake.Refused s) begins is same = refused_first side held spelling frame (shake.Refused s) begins is same
first_refused side held spelling frame shake.NoMemory begins is same = (record { spelling = spelling; frame = frame }, begins)

-- ---- what the wire reads

-- since bytes are read in one way
wire_later : ReadsOnce → (codec : Codec) (held : Held) (P : Reading → Type 0)
    → (reading : Reading) × (ReadsLater held.most codec held.bytes reading × P reading)
    → (wire : Wire) → IsHouseWire held.most wire → P (wire.later codec held.bytes)
wire_later once codec held P gives wire house =
    subst P ((once held.most held.bytes gives.0 (wire.later codec held.bytes)).1 codec gives.1.0 (house.later codec held.bytes)) gives.1.1

wire_first : ReadsOnce → (side : Side) (held : Held) (P : Reading → Type 0)
    → (reading : Reading) × (ReadsFirst held.most side held.bytes reading × P reading)
    → (wire : Wire) → IsHouseWire held.most wire → P (wire.first side held.bytes)
wire_first once side held P gives wire house =
    subst P ((once held.most held.bytes gives.0 (wire.first side held.bytes)).0 side gives.1.0 (house.first side held.bytes)) gives.1.1

tells_later : ReadsOnce → (codec : Codec) (held : Held) (answer : Result (Option Read) LinkFault) → GivesLater codec held answer
    → TellsWireLater codec held answer
tells_later once codec held (Ok None) gives = wire_later once codec held (TellsLater codec held (Ok None)) gives
tells_later once codec held (Ok (Some (read.Message m))) gives = wire_later once codec held (TellsLater codec held (Ok (Some (read.Message m)))) gives
tells_later once codec held (Ok (Some (read.Unknown n))) gives = wire_later once codec held (TellsLater codec held (Ok (Some (read.Unknown n)))) gives
tells_later once codec held (Err (link.Refused at reason)) gives = wire_later once codec held (TellsLater codec held (Err (link.Refused at reason))) gives
tells_later once codec held (Err link.NoMemory) gives = λ wire house. gives

tells_first : ReadsOnce → (side : Side) (held : Held) (answer : Result (Option Handshake) HandshakeFault) → GivesFirst side held answer
    → TellsWireFirst side held answer
tells_first once side held (Ok None) gives = wire_first once side held (TellsFirst side held (Ok None)) gives
tells_first once side held (Ok (Some (handshake.Request asked))) gives = wire_first once side held (TellsFirst side held (Ok (Some (handshake.Request asked)))) gives
tells_first once side held (Ok (Some handshake.Response)) gives = wire_first once side held (TellsFirst side held (Ok (Some handshake.Response))) gives
tells_first once side held (Err (shaking.Split fault)) gives = wire_first once side held (TellsFirst side held (Err (shaking.Split fault))) gives
tells_first once side held (Err (shaking.Shake e)) gives = wire_first once side held (TellsFirst side held (Err (shaking.Shake e))) gives
tells_first once side held (Err shaking.NoMemory) gives = λ wire house. gives

pub told_later : ReadsOnce → (codec : Codec) (held : Held) (answer : Result (Option Read) LinkFault)
    → (held.framing ≡ framing_of codec → GivesLater codec held answer) → held.framing ≡ framing_of codec → TellsWireLater codec held answer
told_later once codec held answer reads same = tells_later once codec held answer (reads same)

pub told_first : ReadsOnce → (side : Side) (held : Held) (answer : Result (Option Handshake) HandshakeFault)
    → (held.framing ≡ Record → GivesFirst side held answer) → held.framing ≡ Record → TellsWireFirst side held answer
told_first once side held answer reads same = tells_first once side held answer (reads same)
