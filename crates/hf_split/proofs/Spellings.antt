-- What depends on how a framing spells its frames.
use Rattle.std.proofs.Common.{◌≡◌, ◌≢◌, ◌<◌, ◌≤◌, ◌+◌, ℕ, List, [], ◌∷◌, ◌++◌, length, take, drop, get_or, refl, sym, ◌∙◌, ap, subst, arith, append-nil, append_assoc, length-append, length-take}
use Rattle.std.specs.List.{AllByRecursion}
use Rattle.std.proofs.lemmas.List.{get_or-take, get_or_at, drop_at, take_at, append_cancel_left}
use Rattle.std.proofs.lemmas.List.Elements.{recursion_from_All}
use Rattle.hf_split.specs.declared.framing.Framing.{Framing}
use Rattle.hf_split.specs.declared.framing.Framing.TheVariants.{Record, Length}
use Rattle.hf_split.specs.VarInts.{BeginsWithVarInt, base_128}
use Rattle.hf_split.specs.Cuts.{Spelled, IsPlain, IsSpelling, IsFrame, BeginsWith, IsTooLong, IsBadLength}
use Rattle.hf_split.proofs.VarIntFronts.{var_int_once, one_number, no_end_begins_none}

-- two are one by their parts
pub same_spelled : (a b : Spelled) → a.spelling ≡ b.spelling → a.frame ≡ b.frame → a ≡ b
same_spelled a b s f =
    let by_spelling : List ℕ → Spelled = λ x. record { spelling = x; frame = a.frame } in
    let by_frame : List ℕ → Spelled = λ x. record { spelling = b.spelling; frame = x } in
    ap by_spelling s ∙ ap by_frame f

-- two plain fronts of one list, each before a separator, are one
split_once : (f g a b : List ℕ) → AllByRecursion (λ x. x ≢ 30) f → AllByRecursion (λ x. x ≢ 30) g → f ++ 30 ∷ a ≡ g ++ 30 ∷ b → f ≡ g
split_once [] [] a b p q e = refl
split_once [] (y ∷ g) a b p q e = absurd (q.0 (cc))
split_once (x ∷ f) [] a b p q e = absurd (p.0 (cc))
split_once (x ∷ f) (y ∷ g) a b p q e =
    let tail : f ++ 30 ∷ a ≡ g ++ 30 ∷ b = cc in
    let same : f ≡ g = split_once f g a b p.1 q.1 tail in
    cc

-- two fronts of one list that have one length are one
fronts_once : (f g a b : List ℕ) → length f ≡ length g → f ++ a ≡ g ++ b → f ≡ g
fronts_once f g a b same e = sym (take_at f a (length f) refl) ∙ ap (λ xs. take (length f) xs) e ∙ take_at g b (length f) (sym same)

-- what stands at the front is read in one way
pub read_once : (framing : Framing) (x y : Spelled) (a b : List ℕ) → IsSpelling framing x.spelling x.frame → IsSpelling framing y.spelling y.frame
    → x.spelling ++ a ≡ y.spelling ++ b → x ≡ y
read_once Record x y a b p q e =
    let left : x.spelling ++ a ≡ x.frame ++ 30 ∷ a = ap (λ (s : List ℕ). s ++ a) p.0 ∙ append_assoc x.frame (30 ∷ []) a in
    let right : y.spelling ++ b ≡ y.frame ++ 30 ∷ b = ap (λ (s : List ℕ). s ++ b) q.0 ∙ append_assoc y.frame (30 ∷ []) b in
    let same : x.frame ≡ y.frame =
    split_once x.frame y.frame a b (recursion_from_All (λ b. b ≢ 30) x.frame p.1) (recursion_from_All (λ b. b ≢ 30) y.frame q.1)
    (sym left ∙ e ∙ right) in
    same_spelled x y (p.0 ∙ ap (λ (f : List ℕ). f ++ 30 ∷ []) same ∙ sym q.0) same
read_once Length x y a b p q e =
    let left : x.spelling ++ a ≡ p.0 ++ (x.frame ++ a) = ap (λ (s : List ℕ). s ++ a) p.1.1 ∙ append_assoc p.0 x.frame a in
    let right : y.spelling ++ b ≡ q.0 ++ (y.frame ++ b) = ap (λ (s : List ℕ). s ++ b) q.1.1 ∙ append_assoc q.0 y.frame b in
    let whole : p.0 ++ (x.frame ++ a) ≡ q.0 ++ (y.frame ++ b) = sym left ∙ e ∙ right in
    let prefix : p.0 ≡ q.0 = var_int_once p.0 q.0 (length x.frame) (length y.frame) (x.frame ++ a) (y.frame ++ b) p.1.0 q.1.0 whole in
    let size : length x.frame ≡ length y.frame = p.1.0.value ∙ ap base_128 prefix ∙ sym q.1.0.value in
    let rest : x.frame ++ a ≡ y.frame ++ b = append_cancel_left q.0 (x.frame ++ a) (y.frame ++ b) (ap (λ (s : List ℕ). s ++ (x.frame ++ a)) (sym prefix) ∙ whole) in
    let same : x.frame ≡ y.frame = fronts_once x.frame y.frame a b size rest in
    same_spelled x y (p.1.1 ∙ ap (λ (s : List ℕ). s ++ x.frame) prefix ∙ ap (λ (f : List ℕ). q.0 ++ f) same ∙ sym q.1.1) same

-- a spelled frame in front of anything
pub begins_front : (framing : Framing) (most : ℕ) (item : Spelled) (more : List ℕ) → IsFrame framing most item → BeginsWith framing most (item.spelling ++ more) item
begins_front framing most item more is =
    record { is_frame = is; front = ap (λ xs. item.spelling ++ xs) (sym (drop_at item.spelling more (length item.spelling) refl)) }

-- what bytes begin with they begin with when more stand behind them
pub begins_more : (framing : Framing) (most : ℕ) (bytes more : List ℕ) (item : Spelled) → BeginsWith framing most bytes item → BeginsWith framing most (bytes ++ more) item
begins_more framing most bytes more item begins =
    let whole : item.spelling ++ (drop (length item.spelling) bytes ++ more) ≡ bytes ++ more =
    sym (append_assoc item.spelling (drop (length item.spelling) bytes) more) ∙ ap (λ xs. xs ++ more) (sym begins.front) in
    subst (λ (xs : List ℕ). BeginsWith framing most xs item) whole
    (begins_front framing most item (drop (length item.spelling) bytes ++ more) begins.is_frame)

-- no spelling is empty
pub spelling_some : (framing : Framing) (spelling frame : List ℕ) → IsSpelling framing spelling frame → 0 < length spelling
spelling_some Record spelling frame is = omega (arith, ap length is.0, length-append frame (30 ∷ []))
spelling_some Length spelling frame is =
    omega (arith, ap length is.1.1, length-append is.0 frame, ap length is.1.0.parts, length-append is.1.0.front (is.1.0.last ∷ []))

-- the separator of a frame stands behind it, and the frame ends before the bytes do
pub record IsEnded (most : ℕ) (bytes : List ℕ) (item : Spelled) : Type 0 where
  pub short : length item.frame ≤ most
  pub spelling : length item.spelling ≡ length item.frame + 1
  pub inside : length item.frame < length bytes
  pub separator : get_or bytes (length item.frame) 0 ≡ 30

pub ended : (most : ℕ) (bytes : List ℕ) (item : Spelled) → BeginsWith Record most bytes item → IsEnded most bytes item
ended most bytes item begins =
    let spells = begins.is_frame.spells in
    let size : length item.spelling ≡ length item.frame + 1 = ap length spells.0 ∙ length-append item.frame (30 ∷ []) in
    let whole : bytes ≡ item.frame ++ 30 ∷ drop (length item.spelling) bytes =
    begins.front ∙ ap (λ (s : List ℕ). s ++ drop (length item.spelling) bytes) spells.0 ∙ append_assoc item.frame (30 ∷ []) (drop (length item.spelling) bytes) in
    record {
      short = begins.is_frame.short;
      spelling = size;
      inside = omega (arith, ap length whole, length-append item.frame (30 ∷ drop (length item.spelling) bytes));
      separator = ap (λ xs. get_or xs (length item.frame) 0) whole ∙ get_or_at item.frame 30 (drop (length item.spelling) bytes) 0 (length item.frame) refl;
    }

-- the length, the frame, and what stands behind them
pub length_first : (most : ℕ) (bytes : List ℕ) (item : Spelled) (begins : BeginsWith Length most bytes item)
    → bytes ≡ begins.is_frame.spells.0 ++ (item.frame ++ drop (length item.spelling) bytes)
length_first most bytes item begins =
    let spells = begins.is_frame.spells in
    begins.front ∙ ap (λ (s : List ℕ). s ++ drop (length item.spelling) bytes) spells.1.1 ∙ append_assoc spells.0 item.frame (drop (length item.spelling) bytes)

-- a frame after its length begins with the length
pub begins_with_length : (most : ℕ) (bytes : List ℕ) (item : Spelled) → BeginsWith Length most bytes item → BeginsWithVarInt bytes (length item.frame)
begins_with_length most bytes item begins =
    let spells = begins.is_frame.spells in
    record {
      prefix = spells.0;
      rest = item.frame ++ drop (length item.spelling) bytes;
      is_var_int = spells.1.0;
      whole = length_first most bytes item begins;
    }

-- bytes with no separator within the limit begin with no frame
pub plain_begins_none : (most : ℕ) (bytes : List ℕ) (item : Spelled) → IsPlain (take (most + 1) bytes) → BeginsWith Record most bytes item → ⊥
plain_begins_none most bytes item plain begins =
    let end = ended most bytes item begins in
    plain (length item.frame) 0
    (omega (arith, length-take (most + 1) bytes, end.short, end.inside))
    (get_or-take (most + 1) bytes (length item.frame) 0 (omega (arith, end.short)) ∙ end.separator)

-- nor do bytes with another length
pub length_is : (most : ℕ) (bytes : List ℕ) (item : Spelled) (n : ℕ) → BeginsWithVarInt bytes n → BeginsWith Length most bytes item → length item.frame ≡ n
length_is most bytes item n at begins =
    one_number bytes [] (length item.frame) n (begins_with_length most bytes item begins)
    (subst (λ (xs : List ℕ). BeginsWithVarInt xs n) (sym (append-nil bytes)) at)

pub too_long_begins_none : (framing : Framing) (most : ℕ) (bytes : List ℕ) (item : Spelled) → IsTooLong framing most bytes → BeginsWith framing most bytes item → ⊥
too_long_begins_none Record most bytes item long begins = plain_begins_none most bytes item long.1 begins
too_long_begins_none Length most bytes item long begins =
    let size : length item.frame ≡ long.0 = length_is most bytes item long.0 long.1.1 begins in
    absurd (omega (arith, long.1.0, begins.is_frame.short))

pub bad_length_begins_none : (framing : Framing) (most : ℕ) (bytes : List ℕ) (item : Spelled) → IsBadLength framing bytes → BeginsWith framing most bytes item → ⊥
bad_length_begins_none Record most bytes item bad begins = absurd bad
bad_length_begins_none Length most bytes item bad begins = no_end_begins_none bytes (length item.frame) bad (begins_with_length most bytes item begins)
