-- The wire: that there is one, and that it is sound.
use Rattle.std.proofs.Common.{◌≡◌, inl, inr, [], ℕ, ◌+◌, ◌≤◌, List, length, refl, ap, subst, arith}
use Rattle.hf_split.specs.declared.framing.Framing.TheVariants.{Record}
use Rattle.hf_split.specs.declared.splitter.SplitFault.TheVariants.{TooLong, BadLength}
use Rattle.hf_split.specs.Words.{fault_words}
use Rattle.hm_codec.specs.Words.{why_words}
use Rattle.hs_shake.specs.Responses.{refusal_text}
use Rattle.hs_shake.specs.Words.{shake_words}
use Rattle.hd_delivery.specs.declared.vocabulary.Side.TheVariants.{Client, Server}
use Rattle.hf_split.specs.Laws.{BeginsOnce, HasOneBeginning, EmptyWaits, WaitingHasRoom, TooLongStays, BadLengthStays}
use Rattle.hm_message.specs.declared.message.Codec.{Codec}
use Rattle.hm_message.specs.declared.message.Message.{Message}
use Rattle.hm_codec.specs.Frames as codecs
use Rattle.hm_codec.specs.Frames.{framing_of, framed}
use Rattle.hm_codec.specs.Laws.{FramesHaveOneMeaning}
use Rattle.hs_shake.specs.Laws.{RequestsHaveOneMeaning, ResponsesHaveOneMeaning}
use Rattle.hd_delivery.specs.Numbers.{most_framing}
use Rattle.hd_delivery.specs.declared.vocabulary.Side.{Side}
use Rattle.hd_delivery.specs.Frames.{Request, Response, Numbered, Foreign, Strange, frame_of}
use Rattle.hd_delivery.specs.Bytes.{Wire, Reading, Waits, Reads, Refuses, Stops, IsLater, IsFirst}
use Rattle.he_wire.specs.Readings.{ReadsFirst, ReadsLater, IsLaterFrame, IsRefused, IsFirstFrame}
use Rattle.he_wire.specs.Spelling.{spelling}
use Rattle.he_wire.specs.Wires.{IsHouseWire}
use Rattle.he_wire.specs.Laws.{BytesAreRead, HasWire, ReadsOnce, WireIsSound}
use Rattle.he_wire.proofs.Readers.{reading, sound_reader, wrapped_length}
use Rattle.he_wire.proofs.Meanings.{NoReason, later_means, later_by, by_later, later_kind, first_means, first_by, by_first, first_kind}

pub has : BeginsOnce → HasOneBeginning → FramesHaveOneMeaning → RequestsHaveOneMeaning → ResponsesHaveOneMeaning → HasWire
has begins one meaning asked told most =
    let first_at : (side : Side) (bytes : List ℕ) → (r : Reading) × ReadsFirst most side bytes r = λ side bytes.
    let r = reading Record most (IsFirstFrame side) NoReason (first_means asked told side) begins one bytes in
    (r.0, by_first most side bytes r.0 r.1) in
    let later_in : (codec : Codec) (bytes : List ℕ) → (r : Reading) × ReadsLater most codec bytes r = λ codec bytes.
    let r = reading (framing_of codec) most (IsLaterFrame codec) (IsRefused codec) (later_means meaning codec) begins one bytes in
    (r.0, by_later most codec bytes r.0 r.1) in (
      record {
        spell = spelling;
        frame_size = λ codec m. length (codecs.frame_of codec m);
        first = λ side bytes. (first_at side bytes).0;
        later = λ codec bytes. (later_in codec bytes).0;
      },
      record {
        spells = λ codec f. refl;
        sizes = λ codec m. refl;
        first = λ side bytes. (first_at side bytes).1;
        later = λ codec bytes. (later_in codec bytes).1;
      },
    )

framed_length : (most : ℕ) (wire : Wire) → IsHouseWire most wire → (codec : Codec) (m : Message)
    → (wire.frame_size codec m ≤ length (wire.spell codec (Numbered m))) × (length (wire.spell codec (Numbered m)) ≤ wire.frame_size codec m + most_framing)
framed_length most wire house codec m =
    let w = wrapped_length (framing_of codec) (codecs.frame_of codec m) in
    let s = house.sizes codec m in
    let e = ap length (house.spells codec (Numbered m)) in
    (omega (arith, w.0, s, e), omega (arith, w.1, s, e))

pub sound : BeginsOnce → HasOneBeginning → FramesHaveOneMeaning → RequestsHaveOneMeaning → ResponsesHaveOneMeaning → EmptyWaits → WaitingHasRoom → TooLongStays → BadLengthStays → WireIsSound
sound begins one meaning asked told empty room long bad limits wire house = record {
  framed = λ codec m can. framed_length limits.frame wire house codec m;
  first = λ side. sound_reader Record limits.frame (IsFirstFrame side) NoReason (first_means asked told side) begins one (wire.first side)
      (λ bytes. first_by limits.frame side bytes (wire.first side bytes) (house.first side bytes)) empty room long bad limits refl (IsFirst side) (first_kind side);
  first_refuses_none = λ side bytes why size e. subst (ReadsFirst limits.frame side bytes) e (house.first side bytes);
  later = λ codec. sound_reader (framing_of codec) limits.frame (IsLaterFrame codec) (IsRefused codec) (later_means meaning codec) begins one (wire.later codec)
      (λ bytes. later_by limits.frame codec bytes (wire.later codec bytes) (house.later codec bytes)) empty room long bad limits refl IsLater (later_kind codec);
}

-- what stands there is what the reader says
later_is : ReadsOnce → (most : ℕ) (wire : Wire) → IsHouseWire most wire → (codec : Codec) (bytes : List ℕ) (r : Reading) → ReadsLater most codec bytes r → wire.later codec bytes ≡ r
later_is once most wire house codec bytes r h = (once most bytes (wire.later codec bytes) r).1 codec (house.later codec bytes) h

first_is : ReadsOnce → (most : ℕ) (wire : Wire) → IsHouseWire most wire → (side : Side) (bytes : List ℕ) (r : Reading) → ReadsFirst most side bytes r → wire.first side bytes ≡ r
first_is once most wire house side bytes r h = (once most bytes (wire.first side bytes) r).0 side (house.first side bytes) h

pub read_so : ReadsOnce → BytesAreRead
read_so once most wire house = record {
  message = λ codec bytes item m b h. later_is once most wire house codec bytes (Reads (frame_of m) (length item.spelling)) (item, (b, refl, inl (m, (h, refl))));
  foreign = λ codec bytes item n b h. later_is once most wire house codec bytes (Reads (Foreign n) (length item.spelling)) (item, (b, refl, inr (n, (h, refl))));
  refused = λ codec bytes item why b h. later_is once most wire house codec bytes (Refuses (why_words why) (length item.spelling)) (item, (b, refl, (why, (h, refl))));
  too_long = λ codec bytes at h. later_is once most wire house codec bytes (Stops (fault_words (TooLong at))) (inl (h, refl));
  bad_length = λ codec bytes at h. later_is once most wire house codec bytes (Stops (fault_words (BadLength at))) (inr (h, refl));
  waits = λ codec bytes h. later_is once most wire house codec bytes Waits h;
  request = λ bytes item codec version b h. first_is once most wire house Server bytes (Reads (Request codec version) (length item.spelling)) (item, (b, refl, h));
  no_request = λ bytes item e b h. first_is once most wire house Server bytes (Reads (Strange (shake_words e) (refusal_text e)) (length item.spelling)) (item, (b, refl, (e, (h, refl, refl))));
  response = λ bytes item b h. first_is once most wire house Client bytes (Reads Response (length item.spelling)) (item, (b, refl, h));
  no_response = λ bytes item e b h. first_is once most wire house Client bytes (Reads (Strange (shake_words e) []) (length item.spelling)) (item, (b, refl, (e, (h, refl, refl))));
  long_shake = λ side bytes at h. first_is once most wire house side bytes (Stops (fault_words (TooLong at))) (inl (h, refl));
  shake_waits = λ side bytes h. first_is once most wire house side bytes Waits h;
}
