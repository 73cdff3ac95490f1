-- What is found as the next frame of an end alone.
use Rattle.std.proofs.Common.{◌≡◌, ℕ, true, false, length, Option, Some, None, Result, Ok, Err, IfOk, IfNone, sym, ap, ◌∙◌, arith, option_map}
use Rattle.std.specs.Prelude.{if◌then◌else◌}
use Rattle.hf_split.specs.declared.framing.Framing.TheVariants.{Record}
use Rattle.hf_split.specs.Cuts.{Spelled, BeginsWith}
use Rattle.hf_split.specs.Held.{Held}
use Rattle.hm_codec.specs.Frames.{framing_of}
use Rattle.hm_message.specs.declared.message.Codec.{Codec}
use Rattle.hm_message.specs.declared.message.Read.{Read}
use Rattle.hm_message.specs.declared.message.Read.TheVariants as read
use Rattle.hd_delivery.specs.declared.vocabulary.Side.{Side}
use Rattle.hd_delivery.specs.Frames.{LinkFrame, count}
use Rattle.hd_delivery.specs.Histories.{Config, as_told}
use Rattle.hd_delivery.specs.Bytes.{Reading, Reads, Wire}
use Rattle.he_wire.specs.Gives.{TellsLater}
use Rattle.hd_trace.specs.declared.marks.Marks.{Marks}
use Rattle.hd_trace.specs.ByMarks.{next_number_by, frame_given, greets_by}
use Rattle.ha_audit.specs.declared.alone.taking.Taken.{Taken}
use Rattle.ha_audit.specs.AloneState.{framing_by}
use Rattle.ha_audit.specs.AloneSteps.{IsFound, frame_read}

-- a handshake that is read, where the end isn't shaken
pub shake_found : (c : Config) (wire : Wire) (m : Marks) (l : ℕ) (held : Held) (taken : Taken) (side : Side) (f : LinkFrame) (item : Spelled)
    → m.shaken ≡ false → c.side ≡ side
    → BeginsWith held.framing held.most held.bytes item → wire.first side held.bytes ≡ Reads f (length item.spelling)
    → greets_by side c f ≡ Some taken.got
    → count m.next f ≡ Some 1 → taken.next ≡ Some 1 → IsFound c wire m l held taken
shake_found c wire m l held taken side f item unshaken same begins reads gives counts next = record {
  frame = f;
  item = item;
  begins = begins;
  gives = record {
    reads = ap (λ b. if b then wire.later m.codec held.bytes else wire.first c.side held.bytes) unshaken ∙
        (ap (λ s. wire.first s held.bytes) same ∙ reads);
    gives = ap (λ b. if b then frame_given m (next_number_by m l) f else greets_by c.side c f) unshaken ∙ (ap (λ s. greets_by s c f) same ∙ gives);
  };
  next = next ∙ (ap Some one ∙ sym (ap (option_map as_told) counts));
}
  where
    one : 1 ≡ as_told 1
    one = omega arith

-- the frame that was read
read_there : (codec : Codec) (held : Held) (r : Read) (reading : Reading) → TellsLater codec held (Ok (Some r)) reading
    → (item : Spelled) × (BeginsWith held.framing held.most held.bytes item × (reading ≡ Reads (frame_read r) (length item.spelling)))
read_there codec held (read.Message m) reading (item, (begins, says, is)) = (item, (begins, is))
read_there codec held (read.Unknown n) reading (item, (begins, says, is)) = (item, (begins, is))

-- a frame that is read, where the end is shaken
pub read_found : (c : Config) (wire : Wire) (m : Marks) (l : ℕ) (held : Held) (taken : Taken) (r : Read) → m.shaken ≡ true → TellsLater m.codec held
    (Ok (Some r)) (wire.later m.codec held.bytes)
    → Some taken.got ≡ frame_given m (next_number_by m l) (frame_read r) → taken.next ≡ option_map as_told (count m.next (frame_read r))
    → IsFound c wire m l held taken
read_found c wire m l held taken r shaken tells gives next = let there = read_there m.codec held r (wire.later m.codec held.bytes) tells in record {
  frame = frame_read r;
  item = there.0;
  begins = there.1.0;
  gives = record {
    reads = ap (λ b. if b then wire.later m.codec held.bytes else wire.first c.side held.bytes) shaken ∙ there.1.1;
    gives = ap (λ b. if b then frame_given m (next_number_by m l) (frame_read r) else greets_by c.side c (frame_read r)) shaken ∙ sym gives;
  };
  next = next;
}

pub framing_shaken : (m : Marks) → m.shaken ≡ true → framing_by m ≡ framing_of m.codec
framing_shaken m e = ap (λ b. if b then framing_of m.codec else Record) e

pub framing_unshaken : (m : Marks) → m.shaken ≡ false → framing_by m ≡ Record
framing_unshaken m e = ap (λ b. if b then framing_of m.codec else Record) e

-- nothing on any link is nothing on this one
pub none_at : {A E : Type 0} (P : ℕ → Type 0) (l : ℕ) (r : Result (Option A) E) → IfOk r (λ o. IfNone o ((l : ℕ) → P l)) → IfOk r
    (λ o. IfNone o (P l))
none_at P l (Ok None) p = p l
none_at P l (Ok (Some a)) p = tt
none_at P l (Err e) p = tt
