-- A frame behind its length.
use Rattle.std.proofs.Common.{◌≡◌, ◌<◌, ◌≤◌, ◌+◌, ℕ, List, [], ◌∷◌, ◌++◌, length, get_or, ◌∙◌, ap, sym, subst, arith, append_assoc, length-append, All}
use Rattle.std.proofs.lemmas.List.{get_or_append_left}
use Rattle.std.proofs.lemmas.List.Elements.{All-get_or}
use Rattle.std.proofs.Math.Seq.{get_or-append_seam}
use Rattle.hf_split.specs.declared.framing.Framing.TheVariants.{Length}
use Rattle.hf_split.specs.Cuts.{wrapped}
use Rattle.hf_split.specs.VarInts.{HasMore, var_int_bound}
use Rattle.hf_split.specs.Laws.{WrappedBegins}

-- what is written of a frame is a length, of which each byte but the last has its top bit set, and the frame
pub parts : WrappedBegins → (frame : List ℕ) → length frame < var_int_bound
    → (front : List ℕ) × ((last : ℕ) × (All HasMore front × (last < 128) × ((wrapped Length frame).spelling ≡ front ++ last ∷ frame)))
parts law frame can =
    let spells = (law Length (length frame) frame [] can (omega arith)).is_frame.spells in
    let v = spells.1.0 in
    (v.front, (v.last, (v.more, v.end, spells.1.1 ∙ ap (λ (p : List ℕ). p ++ frame) v.parts ∙ append_assoc v.front (v.last ∷ []) frame)))

-- the byte at this place says that more follow, or is the last of the length
pub before : (bytes front frame : List ℕ) (last i d : ℕ) → All HasMore front → bytes ≡ front ++ last ∷ frame → i < length front → 128 ≤ get_or bytes i d
before bytes front frame last i d each is inside =
    subst (λ (b : ℕ). 128 ≤ b) (sym (ap (λ (xs : List ℕ). get_or xs i d) is ∙ get_or_append_left front (last ∷ frame) d i inside)) (All-get_or HasMore front i d inside each)

pub at_end : (bytes front frame : List ℕ) (last i d : ℕ) → bytes ≡ front ++ last ∷ frame → i ≡ length front → get_or bytes i d ≡ last
at_end bytes front frame last i d is same =
    ap (λ (xs : List ℕ). get_or xs i d) is ∙ ap (λ (k : ℕ). get_or (front ++ last ∷ frame) k d) same ∙ get_or-append_seam front last frame d

pub counted : (bytes front frame : List ℕ) (last : ℕ) → bytes ≡ front ++ last ∷ frame → length bytes ≡ length front + 1 + length frame
counted bytes front frame last is = omega (arith, ap length is, length-append front (last ∷ frame))
