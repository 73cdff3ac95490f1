-- Each frame has one meaning, in either codec.
use Rattle.std.proofs.Common.{◌≡◌, ◌⊎◌, inl, inr, ℕ, List, refl, sym, ◌∙◌, ap}
use Rattle.std.specs.Prelude.{ℤ}
use Rattle.hm_message.specs.Meaning.{HasOneMeaning}
use Rattle.hm_message.specs.declared.message.Codec.{Codec}
use Rattle.hm_message.specs.declared.message.Codec.TheVariants.{Json, Pack}
use Rattle.hm_message.specs.declared.message.Message.{Message}
use Rattle.hm_json.specs.declared.refusal.Refusal.{Refusal}
use Rattle.hm_json.specs.declared.refusal.Refusal.TheVariants as json_refusal
use Rattle.hm_json.specs.Refusals as json_or
use Rattle.hm_json.specs.Says as json_says
use Rattle.hm_json.specs.ExactlyOne as json
use Rattle.hm_pack.specs.declared.refusal.PackRefusal.{PackRefusal}
use Rattle.hm_pack.specs.declared.refusal.PackRefusal.TheVariants as pack_refusal
use Rattle.hm_pack.specs.Refusals as pack_or
use Rattle.hm_pack.specs.Says as pack_says
use Rattle.hm_pack.specs.ExactlyOne as pack
use Rattle.hm_codec.specs.declared.why.FrameWhy.{FrameWhy}
use Rattle.hm_codec.specs.declared.why.FrameWhy.TheVariants as why
use Rattle.hm_codec.specs.Frames.{Why}
use Rattle.hm_codec.specs.Refusals.{of_json, of_pack, IsRefusedFor}
use Rattle.hm_codec.specs.Laws.{IsOneMeaning}

-- ---- a refusal of one codec as an error of either

pub json_refused : (frame : List ℕ) (e : Refusal) → json_or.MemoryOr e (json_says.Why frame e) → IsRefusedFor (of_json e) (Why Json frame)
json_refused frame json_refusal.NotJson is = is
json_refused frame json_refusal.Fraction is = is
json_refused frame json_refusal.TooDeep is = is
json_refused frame json_refusal.NotObject is = is
json_refused frame (json_refusal.Missing field) is = is
json_refused frame (json_refusal.Wrong field) is = is
json_refused frame json_refusal.Both is = is
json_refused frame json_refusal.NoMemory is = tt

pub pack_refused : (frame : List ℕ) (e : PackRefusal) → pack_or.MemoryOr e (pack_says.Why frame e) → IsRefusedFor (of_pack e) (Why Pack frame)
pack_refused frame (pack_refusal.Value e) is = is
pack_refused frame (pack_refusal.Trailing at) is = is
pack_refused frame pack_refusal.NotArray is = is
pack_refused frame (pack_refusal.Missing field) is = is
pack_refused frame (pack_refusal.Wrong field) is = is
pack_refused frame (pack_refusal.ResultKind n) is = is
pack_refused frame pack_refusal.NoMemory is = tt

-- ---- one meaning

-- a codec's reasons are those of its refusals
record AreReasonsOf {R : Type 0} (Refuses : R → Type 0) (wrap : R → FrameWhy) (Reasons : FrameWhy → Type 0) : Type 0 where
  pub of : (r : R) → Refuses r → Reasons (wrap r)
  pub only : (x : FrameWhy) → Reasons x → (r : R) × Refuses r × (x ≡ wrap r)

with_reasons : {R : Type 0} (S : Message → Type 0) (U : ℤ → Type 0) (Refuses : R → Type 0) (wrap : R → FrameWhy) (Reasons : FrameWhy → Type 0)
    → AreReasonsOf Refuses wrap Reasons → HasOneMeaning S U Refuses → HasOneMeaning S U Reasons
with_reasons {R} S U Refuses wrap Reasons reasons one = record {
  some = by one.some;
  one_message = one.one_message;
  one_number = one.one_number;
  one_reason = λ x y p q. same x y (reasons.only x p) (reasons.only y q);
  known = one.known;
  accepted = λ m x p q. (let r = reasons.only x q in one.accepted m r.0 p r.1);
  passed = λ n x p q. (let r = reasons.only x q in one.passed n r.0 p r.1);
} where
  by : ((m : Message) × S m) ⊎ ((n : ℤ) × U n) ⊎ ((r : R) × Refuses r) → ((m : Message) × S m) ⊎ ((n : ℤ) × U n) ⊎ ((x : FrameWhy) × Reasons x)
  by (inl x) = inl x
  by (inr (inl x)) = inr (inl x)
  by (inr (inr x)) = inr (inr (wrap x.0, reasons.of x.0 x.1))

  same : (x y : FrameWhy) → ((r : R) × Refuses r × (x ≡ wrap r)) → ((r : R) × Refuses r × (y ≡ wrap r)) → x ≡ y
  same x y r s = r.2 ∙ ap wrap (one.one_reason r.0 s.0 r.1 s.1) ∙ sym s.2

json_only : (frame : List ℕ) (x : FrameWhy) → Why Json frame x → (r : Refusal) × json_says.Why frame r × (x ≡ why.Json r)
json_only frame (why.Json r) p = (r, p, refl)
json_only frame (why.Split r) p = absurd p
json_only frame (why.Pack r) p = absurd p

pack_only : (frame : List ℕ) (x : FrameWhy) → Why Pack frame x → (r : PackRefusal) × pack_says.Why frame r × (x ≡ why.Pack r)
pack_only frame (why.Pack r) p = (r, p, refl)
pack_only frame (why.Split r) p = absurd p
pack_only frame (why.Json r) p = absurd p

-- in each codec, if each frame has one meaning in JSON and in MessagePack
pub each_meaning : ((frame : List ℕ) → json.ExactlyOne frame) → ((frame : List ℕ) → pack.ExactlyOne frame) → (codec : Codec) (frame : List ℕ) → IsOneMeaning codec frame
each_meaning in_json in_pack Json frame =
    with_reasons (json_says.Says frame) (json_says.Unknown frame) (json_says.Why frame) (λ r. why.Json r) (Why Json frame) (record { of = λ r p. p; only = json_only frame }) (in_json frame)
each_meaning in_json in_pack Pack frame =
    with_reasons (pack_says.Says frame) (pack_says.Unknown frame) (pack_says.Why frame) (λ r. why.Pack r) (Why Pack frame) (record { of = λ r p. p; only = pack_only frame }) (in_pack frame)
