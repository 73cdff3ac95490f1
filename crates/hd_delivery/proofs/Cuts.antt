-- Whole frames of the front of a stream.
use Rattle.std.proofs.Common.{⊎_elim, ◌≡◌, ℕ, zero, suc, ◌+◌, ◌-◌, ◌<◌, ◌≤◌, Bool, true, false, List, [], ◌∷◌, ◌++◌, length, drop, refl, sym, ap, ◌∙◌, arith, length-append}
use Rattle.std.specs.Prelude.{nat_le, if◌then◌else◌}
use Rattle.std.proofs.lemmas.Bool.{cases_lt, lt-leb, le-leb}
use Rattle.hm_message.specs.declared.message.Codec.{Codec}
use Rattle.hd_delivery.specs.declared.vocabulary.Side.{Side}
use Rattle.hd_delivery.specs.Frames.{LinkFrame}
use Rattle.hd_facts.specs.Prefixes.{IsPrefix}
use Rattle.hd_delivery.specs.Laws.{whole_frames}
use Rattle.hd_delivery.specs.Bytes.{Waits, Wire, IsRead, Cut, cut_by, cut_all, codec_after, frames, spelling_of}

-- a front of two parts reaches the second, or is a proper part of the first
over : (p rest s u : List ℕ) → p ++ rest ≡ s ++ u → length s ≤ length p → (q : List ℕ) × (p ≡ s ++ q) × (q ++ rest ≡ u)
over p rest [] u e h = (p, refl, e)
over [] rest (b ∷ s) u e h = absurd (omega arith)
over (a ∷ p) rest (b ∷ s) u e h =
    let t : p ++ rest ≡ s ++ u = cc in
    let f : a ≡ b = cc in
    let r = over p rest s u t (omega arith) in
    (r.0, (λ i. f i ∷ r.1 i), r.2)

under : (p rest s u : List ℕ) → p ++ rest ≡ s ++ u → length p < length s → (q : List ℕ) × (p ++ q ≡ s) × (0 < length q)
under [] rest s u e h = (s, refl, omega arith)
under (a ∷ p) rest [] u e h = absurd (omega arith)
under (a ∷ p) rest (b ∷ s) u e h =
    let t : p ++ rest ≡ s ++ u = cc in
    let f : a ≡ b = cc in
    let r = under p rest s u t (omega arith) in
    (r.0, (λ i. f i ∷ r.1 i), r.2)

pub drop_front : {A : Type 0} (xs ys : List A) → drop (length xs) (xs ++ ys) ≡ ys
drop_front [] ys = refl
drop_front (x ∷ xs) ys = drop_front xs ys

within_yes : (spell : LinkFrame → List ℕ) (t : LinkFrame) (ts : List LinkFrame) (n : ℕ) → length (spell t) ≤ n → whole_frames spell (t ∷ ts) n ≡ t ∷ whole_frames spell ts (n - length (spell t))
within_yes spell t ts n h = rw (le-leb (length (spell t)) n h) refl

within_no : (spell : LinkFrame → List ℕ) (t : LinkFrame) (ts : List LinkFrame) (n : ℕ) → n < length (spell t) → whole_frames spell (t ∷ ts) n ≡ []
within_no spell t ts n h = rw (lt-leb (length (spell t)) n h) refl

-- more bytes end more frames
pub within_more : (spell : LinkFrame → List ℕ) (ts : List LinkFrame) (m n : ℕ) → m ≤ n → IsPrefix (whole_frames spell ts m) (whole_frames spell ts n)
within_more spell [] m n h = ([], refl)
within_more spell (t ∷ ts) m n h = ⊎_elim
    (λ e. rw (within_no spell t ts m e) (whole_frames spell (t ∷ ts) n, refl))
    (λ e. rw (within_yes spell t ts m e) (rw (within_yes spell t ts n (omega arith))
    (let p = within_more spell ts (m - length (spell t)) (n - length (spell t)) (omega arith) in (p.0, ap (λ us. t ∷ us) p.1))))
    (cases_lt m (length (spell t)))

pub within_prefix : (spell : LinkFrame → List ℕ) (ts : List LinkFrame) (n : ℕ) → IsPrefix (whole_frames spell ts n) ts
within_prefix spell [] n = ([], refl)
within_prefix spell (t ∷ ts) n = ⊎_elim
    (λ e. rw (within_no spell t ts n e) (t ∷ ts, refl))
    (λ e. rw (within_yes spell t ts n e) (let p = within_prefix spell ts (n - length (spell t)) in (p.0, ap (λ us. t ∷ us) p.1)))
    (cases_lt n (length (spell t)))

-- all the bytes end all the frames
pub within_all : (wire : Wire) (codec : Codec) (ts : List LinkFrame) → whole_frames (wire.spell codec) ts (length (spelling_of wire codec ts)) ≡ ts
within_all wire codec [] = refl
within_all wire codec (t ∷ ts) =
    let e = length-append (wire.spell codec t) (spelling_of wire codec ts) in
    let left : length (wire.spell codec t ++ spelling_of wire codec ts) - length (wire.spell codec t) ≡ length (spelling_of wire codec ts) = omega arith in
    within_yes (wire.spell codec) t ts (length (wire.spell codec t ++ spelling_of wire codec ts)) (omega arith)
    ∙ ap (λ us. t ∷ us) (ap (whole_frames (wire.spell codec) ts) left ∙ within_all wire codec ts)

module _ (wire : Wire) (codec : Codec) where
  -- each frame is read as itself
  abbrev pub AreRead : List LinkFrame → Type 0
  AreRead [] = Unit {0}
  AreRead (t ∷ ts) = IsRead (wire.later codec) (wire.spell codec t) t × AreRead ts

  -- the first one is read as a handshake after which the codec is this
  abbrev pub AreReadFirst : Side → Codec → List LinkFrame → Type 0
  AreReadFirst side own [] = Unit {0}
  AreReadFirst side own (t ∷ ts) = IsRead (wire.first side) (wire.spell codec t) t × (codec_after own t ≡ codec) × AreRead ts

  -- the frames of a first link or of a later one
  abbrev pub link_cut : Side → Codec → Bool → List ℕ → List Cut
  link_cut side own true bytes = cut_by (wire.first side bytes) 0 bytes (λ f at rest. cut_all (wire.later (codec_after own f)) (length rest) at rest)
  link_cut side own false bytes = cut_all (wire.later codec) (length bytes) 0 bytes

  abbrev pub AreReadOn : Side → Codec → Bool → List LinkFrame → Type 0
  AreReadOn side own true ts = AreReadFirst side own ts
  AreReadOn side own false ts = AreRead ts

  module _ (later_waits : wire.later codec [] ≡ Waits) where
    cut_later : (ts : List LinkFrame) (p rest : List ℕ) (n at : ℕ) → AreRead ts → length p ≤ n → p ++ rest ≡ spelling_of wire codec ts → frames (cut_all (wire.later codec) n at p) ≡ whole_frames (wire.spell codec) ts (length p)
    cut_later [] p rest zero at g h e = refl
    cut_later [] [] rest (suc n) at g h e = rw later_waits refl
    cut_later [] (a ∷ p) rest (suc n) at g h e = absurd (cc)
    cut_later (t ∷ ts) p rest zero at g h e = sym (within_no (wire.spell codec) t ts (length p) (let s = g.0.nonempty in omega arith))
    cut_later (t ∷ ts) p rest (suc n) at g h e = ⊎_elim
        (λ f. let q = under p rest (wire.spell codec t) (spelling_of wire codec ts) e f in
        ap (λ o. frames (cut_by o at p (λ f. cut_all (wire.later codec) n))) (g.0.waits p q.0 q.1 q.2) ∙ sym (within_no (wire.spell codec) t ts (length p) f))
        (λ f. let q = over p rest (wire.spell codec t) (spelling_of wire codec ts) e f in
        let some = g.0.nonempty in
        let len : length p ≡ length (wire.spell codec t) + length q.0 = ap length q.1 ∙ length-append (wire.spell codec t) q.0 in
        let left : length q.0 ≡ length p - length (wire.spell codec t) = omega arith in
        let gone : drop (length (wire.spell codec t)) p ≡ q.0 = ap (drop (length (wire.spell codec t))) q.1 ∙ drop_front (wire.spell codec t) q.0 in
        ap (λ o. frames (cut_by o at p (λ f. cut_all (wire.later codec) n))) (ap (wire.later codec) q.1 ∙ g.0.whole q.0)
        ∙ (ap (λ us. t ∷ us) (ap (λ b. frames (cut_all (wire.later codec) n (at + length (wire.spell codec t)) b)) gone
        ∙ (cut_later ts q.0 rest n (at + length (wire.spell codec t)) g.1 (omega arith) q.2 ∙ ap (whole_frames (wire.spell codec) ts) left))
        ∙ sym (within_yes (wire.spell codec) t ts (length p) f)))
        (cases_lt (length p) (length (wire.spell codec t)))

    module _ (side : Side) (own : Codec) (first_waits : wire.first side [] ≡ Waits) where
      cut_first : (ts : List LinkFrame) (p rest : List ℕ) → AreReadFirst side own ts → p ++ rest ≡ spelling_of wire codec ts → frames (link_cut side own true p) ≡ whole_frames (wire.spell codec) ts (length p)
      cut_first [] [] rest g e = ap (λ o. frames (cut_by o 0 [] (λ f at rest. cut_all (wire.later (codec_after own f)) (length rest) at rest))) first_waits
      cut_first [] (a ∷ p) rest g e = absurd (cc)
      cut_first (t ∷ ts) p rest g e = ⊎_elim
          (λ f. let q = under p rest (wire.spell codec t) (spelling_of wire codec ts) e f in
          ap (λ o. frames (cut_by o 0 p (λ f at rest. cut_all (wire.later (codec_after own f)) (length rest) at rest))) (g.0.waits p q.0 q.1 q.2) ∙ sym (within_no (wire.spell codec) t ts (length p) f))
          (λ f. let q = over p rest (wire.spell codec t) (spelling_of wire codec ts) e f in
          let len : length p ≡ length (wire.spell codec t) + length q.0 = ap length q.1 ∙ length-append (wire.spell codec t) q.0 in
          let left : length q.0 ≡ length p - length (wire.spell codec t) = omega arith in
          let gone : drop (length (wire.spell codec t)) p ≡ q.0 = ap (drop (length (wire.spell codec t))) q.1 ∙ drop_front (wire.spell codec t) q.0 in
          ap (λ o. frames (cut_by o 0 p (λ f at rest. cut_all (wire.later (codec_after own f)) (length rest) at rest))) (ap (wire.first side) q.1 ∙ g.0.whole q.0)
          ∙ (ap (λ us. t ∷ us) (ap (λ b. frames (cut_all (wire.later (codec_after own t)) (length b) (0 + length (wire.spell codec t)) b)) gone
          ∙ (ap (λ k. frames (cut_all (wire.later k) (length q.0) (0 + length (wire.spell codec t)) q.0)) g.1
          ∙ (cut_later ts q.0 rest (length q.0) (0 + length (wire.spell codec t)) g.2 (omega arith) q.2 ∙ ap (whole_frames (wire.spell codec) ts) left)))
          ∙ sym (within_yes (wire.spell codec) t ts (length p) f)))
          (cases_lt (length p) (length (wire.spell codec t)))

      -- what is cut of a front of the bytes are the frames that end in it
      pub cut_front : (b : Bool) (ts : List LinkFrame) (p rest : List ℕ) → AreReadOn side own b ts → p ++ rest ≡ spelling_of wire codec ts → frames (link_cut side own b p) ≡ whole_frames (wire.spell codec) ts (length p)
      cut_front true ts p rest g e = cut_first ts p rest g e
      cut_front false ts p rest g e = cut_later ts p rest (length p) 0 g (omega arith) e

      pub cut_none : (b : Bool) → frames (link_cut side own b []) ≡ []
      cut_none true = ap (λ o. frames (cut_by o 0 [] (λ f at rest. cut_all (wire.later (codec_after own f)) (length rest) at rest))) first_waits
      cut_none false = refl
