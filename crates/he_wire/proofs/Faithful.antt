-- What two ends say is read as itself.
use Rattle.std.proofs.Common.{◌≡◌, inl, ℕ, ◌+◌, ◌^◌, ◌≤◌, ◌<◌, Bool, true, List, [], length, Option, Some, None, refl, sym, subst, ◌∙◌, arith}
use Rattle.std.specs.Prelude.{codes}
use Rattle.std.specs.Str.{is_utf8, chars}
use lib.Utf8.{encode}
use Rattle.std.proofs.lemmas.Str.{IsUtf8-from_is_utf8}
use Rattle.hf_split.specs.declared.framing.Framing.TheVariants.{Record}
use Rattle.hf_split.specs.Cuts.{IsPlain, wrapped}
use Rattle.hf_split.specs.Laws.{BeginsOnce, HasOneBeginning, TooLongBeginsNone, BadLengthBeginsNone, WrappedBegins}
use Rattle.hm_message.specs.Message.{is_sequenced}
use Rattle.hm_message.specs.declared.message.Codec.{Codec}
use Rattle.hm_message.specs.declared.message.Message.{Message}
use Rattle.hm_message.specs.declared.message.Message.TheVariants as message
use Rattle.hm_codec.specs.Frames as codecs
use Rattle.hm_codec.specs.Frames.{framing_of, framed, IsSaid}
use Rattle.hm_codec.specs.Laws.{FramesHaveOneMeaning, ControlsAreSaid, ControlsAreShort, IsControl, error_length}
use Rattle.hs_shake.specs.Laws.{RequestsHaveOneMeaning, ResponsesHaveOneMeaning, RequestsAreRead, RefusalsAreRead, TextsArePlain, TextsAreShort}
use Rattle.hs_shake.specs.declared.shake.ShakeError.TheVariants as refusals
use Rattle.hs_shake.specs.Requests.{request_frame}
use Rattle.hs_shake.specs.Responses.{Accepts, response_frame, refusal_text, refusal_frame}
use Rattle.hd_delivery.specs.declared.vocabulary.Reason.{Reason}
use Rattle.hd_delivery.specs.declared.vocabulary.Reason.TheVariants.{Done, Protocol, InUse, TooMany, Flood, Slow, Expired}
use Rattle.hd_delivery.specs.declared.vocabulary.Side.{Side}
use Rattle.hd_delivery.specs.declared.vocabulary.Side.TheVariants.{Client, Server}
use Rattle.hd_delivery.specs.Numbers.{most_messages}
use Rattle.hd_delivery.specs.Frames.{LinkFrame, Request, Response, Refusal, Strange, Numbered, Ack, Sequence, Ping, Close, error_of, received_of, frame_of}
use Rattle.hd_delivery.specs.Worlds.{Limits}
use Rattle.hd_delivery.specs.Bytes.{Wire, IsRead}
use Rattle.he_wire.specs.Readings.{IsLaterFrame, IsRefused, IsFirstFrame}
use Rattle.he_wire.specs.Spelling.{spelling}
use Rattle.he_wire.specs.Wires.{IsHouseWire}
use Rattle.he_wire.specs.Laws.{WireIsFaithful, AnswersAreRead, shortest_limit}
use Rattle.he_wire.proofs.Readers.{is_read}
use Rattle.he_wire.proofs.Meanings.{NoReason, later_means, later_by, first_means, first_by}

sequenced : (m : Message) → is_sequenced m ≡ true → Numbered m ≡ frame_of m
sequenced (message.Invocation headers id target arguments streams) e = refl
sequenced (message.StreamItem headers id item) e = refl
sequenced (message.Completion headers id end) e = refl
sequenced (message.StreamInvocation headers id target arguments streams) e = refl
sequenced (message.CancelInvocation headers id) e = refl
sequenced message.Ping e = absurd cc
sequenced (message.Close error allow) e = absurd cc
sequenced (message.Ack upto) e = absurd cc
sequenced (message.Sequence first received) e = absurd cc

sequence_control : (first : ℕ) (received : Option ℕ) → first ≤ most_messages + 1 → received_of received ≤ most_messages → IsControl (message.Sequence first received)
sequence_control first None f r = (omega (arith, f), tt)
sequence_control first (Some n) f r = (omega (arith, f), omega (arith, r))

-- the greatest number of bytes that the text of a reason has
abbrev most_of_reason : ℕ
most_of_reason = 20

record IsShortClose (error : Option (List ℕ)) (allow : Bool) : Type 0 where
  control : IsControl (message.Close error allow)
  short : error_length (message.Close error allow) ≤ most_of_reason

reason_close : (reason : Reason) (allow : Bool) → IsShortClose (error_of reason) allow
unfolding is_utf8 chars encode
reason_close Done allow = record { control = tt; short = omega arith }
reason_close Protocol allow = record { control = (IsUtf8-from_is_utf8 (codes "Protocol error.") refl, omega arith); short = omega arith }
reason_close InUse allow = record { control = (IsUtf8-from_is_utf8 (codes "Id in use.") refl, omega arith); short = omega arith }
reason_close TooMany allow = record { control = (IsUtf8-from_is_utf8 (codes "Too many calls.") refl, omega arith); short = omega arith }
reason_close Flood allow = record { control = (IsUtf8-from_is_utf8 (codes "Too many inputs.") refl, omega arith); short = omega arith }
reason_close Slow allow = record { control = (IsUtf8-from_is_utf8 (codes "Too slow.") refl, omega arith); short = omega arith }
reason_close Expired allow = record { control = (IsUtf8-from_is_utf8 (codes "Connection expired.") refl, omega arith); short = omega arith }

-- what the proof stands on
pub record Rests : Type 0 where
  pub begins : BeginsOnce
  pub one : HasOneBeginning
  pub too_long : TooLongBeginsNone
  pub bad_length : BadLengthBeginsNone
  pub begins_wrapped : WrappedBegins
  pub meaning : FramesHaveOneMeaning
  pub controls : ControlsAreSaid
  pub short : ControlsAreShort
  pub asked : RequestsHaveOneMeaning
  pub told : ResponsesHaveOneMeaning
  pub requests : RequestsAreRead
  pub response : Accepts response_frame
  pub plain : TextsArePlain
  pub texts : TextsAreShort

module _ (r : Rests) (limits : Limits) (wire : Wire) (house : IsHouseWire limits.frame wire) where
  first_read : (codec : Codec) (side : Side) (f : LinkFrame) (text : List ℕ) → spelling codec f ≡ (wrapped Record text).spelling → IsPlain text → length text ≤ limits.frame → IsFirstFrame side f text
      → IsRead (wire.first side) (wire.spell codec f) f
  first_read codec side f text e plain short is =
      subst (λ (bytes : List ℕ). IsRead (wire.first side) bytes f) (sym (house.spells codec f ∙ e))
      (is_read Record limits.frame (IsFirstFrame side) NoReason (first_means r.asked r.told side) r.begins r.one (wire.first side)
      (λ bytes. first_by limits.frame side bytes (wire.first side bytes) (house.first side bytes)) r.too_long r.bad_length r.begins_wrapped text f plain short is)

  later_read : (codec : Codec) (f : LinkFrame) (m : Message) → spelling codec f ≡ framed codec m → f ≡ frame_of m → IsSaid codec m → length (codecs.frame_of codec m) ≤ limits.frame
      → IsRead (wire.later codec) (wire.spell codec f) f
  later_read codec f m e is said short =
      subst (λ (bytes : List ℕ). IsRead (wire.later codec) bytes f) (sym (house.spells codec f ∙ e))
      (is_read (framing_of codec) limits.frame (IsLaterFrame codec) (IsRefused codec) (later_means r.meaning codec) r.begins r.one (wire.later codec)
      (λ bytes. later_by limits.frame codec bytes (wire.later codec bytes) (house.later codec bytes)) r.too_long r.bad_length r.begins_wrapped (codecs.frame_of codec m) f
      said.wraps short (inl (m, (said.says, is))))

  control_read : shortest_limit ≤ limits.frame → (codec : Codec) (f : LinkFrame) (m : Message) → spelling codec f ≡ framed codec m → f ≡ frame_of m → IsControl m → error_length m ≤ most_of_reason
      → IsRead (wire.later codec) (wire.spell codec f) f
  control_read room codec f m e is control few = later_read codec f m e is (r.controls codec m control).0 (omega (arith, room, r.short codec m control, few))

pub faithful : Rests → WireIsFaithful
faithful r limits wire codec version messages room spoken said house =
    let is_version : version < 2 ^ 8 = omega (arith, spoken.1) in
    record {
      request = first_read r limits wire house codec Server (Request codec version) (request_frame codec version) refl (r.plain.request codec version)
          (omega (arith, room, r.texts.request codec version is_version)) (r.requests codec version spoken);
      response = first_read r limits wire house codec Client Response response_frame refl r.plain.response (omega (arith, room, r.texts.response)) r.response;
      message = λ m there can. later_read r limits wire house codec (Numbered m) m refl (sequenced m can.sequenced) (said m there) (omega (arith, can.short, house.sizes codec m));
      ack = λ upto few. control_read r limits wire house room codec (Ack upto) (message.Ack upto) refl refl (omega (arith, few)) (omega arith);
      sequence = λ first received few told. control_read r limits wire house room codec (Sequence first received) (message.Sequence first received) refl refl (sequence_control first received few told) (omega arith);
      ping = control_read r limits wire house room codec Ping message.Ping refl refl tt (omega arith);
      close = λ reason allow.
          let c = reason_close reason allow in
          control_read r limits wire house room codec (Close (error_of reason) allow) (message.Close (error_of reason) allow) refl refl c.control c.short;
    }

-- what the proof for an answer stands on
pub record AnswerRests : Type 0 where
  pub begins : BeginsOnce
  pub one : HasOneBeginning
  pub too_long : TooLongBeginsNone
  pub bad_length : BadLengthBeginsNone
  pub begins_wrapped : WrappedBegins
  pub asked : RequestsHaveOneMeaning
  pub told : ResponsesHaveOneMeaning
  pub refusals : RefusalsAreRead
  pub plain : TextsArePlain
  pub texts : TextsAreShort

pub answers : AnswerRests → AnswersAreRead
answers r limits wire codec e room is house =
    subst (λ (bytes : List ℕ). IsRead (wire.first Client) bytes (Strange (codes "Refused") [])) (sym (house.spells codec (Refusal (refusal_text e))))
    (is_read Record limits.frame (IsFirstFrame Client) NoReason (first_means r.asked r.told Client) r.begins r.one (wire.first Client)
    (λ bytes. first_by limits.frame Client bytes (wire.first Client bytes) (house.first Client bytes)) r.too_long r.bad_length r.begins_wrapped (refusal_frame e)
    (Strange (codes "Refused") []) (r.plain.refusal e) (omega (arith, room, r.texts.refusal e)) (refusals.Refused (refusal_text e), (r.refusals e is, refl, refl)))
