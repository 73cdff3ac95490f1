-- A reader that says what stands at the front of some bytes, whatever its frames mean.
use Rattle.std.proofs.Common.{◌≡◌, ◌⊎◌, inl, inr, ℕ, zero, suc, ◌+◌, ◌≤◌, ◌<◌, ◌/◌, ◌%◌, List, [], ◌∷◌, ◌++◌, length, drop, refl, sym, ap, subst, ◌∙◌, arith, length-append, append_assoc}
use Rattle.std.specs.Prelude.{codes, nat_lt}
use Rattle.std.proofs.lemmas.Bool.{cond_both}
use Rattle.std.proofs.lemmas.List.{append-nil, drop-append-le}
use Rattle.hf_split.specs.declared.framing.Framing.{Framing}
use Rattle.hf_split.specs.declared.framing.Framing.TheVariants.{Record, Length}
use Rattle.hf_split.specs.Cuts.{Spelled, IsSpelling, BeginsWith, IsFaulty, IsWaiting, CanWrap, wrapped}
use Rattle.hf_split.specs.VarInts.{shortest, shortest_in}
use Rattle.hf_split.specs.Laws.{BeginsOnce, HasOneBeginning, EmptyWaits, WaitingHasRoom, TooLongBeginsNone, BadLengthBeginsNone, TooLongStays, BadLengthStays, WrappedBegins}
use Rattle.hd_delivery.specs.Numbers.{most_framing}
use Rattle.hd_delivery.specs.Frames.{LinkFrame}
use Rattle.hd_delivery.specs.Worlds.{Limits}
use Rattle.hd_delivery.specs.Bytes.{Reading, Waits, Reads, Refuses, Stops, IsRead, IsSize, IsSoundReader}
use Rattle.he_wire.specs.Readings.{IsStopped, BeginsWithOne}

-- what a reader makes of the bytes, by what a frame is and why it is refused
abbrev pub ReadsBy : Framing → ℕ → (LinkFrame → List ℕ → Type 0) → (List ℕ → List ℕ → Type 0) → List ℕ → Reading → Type 0
ReadsBy framing most Is Bad bytes Waits = IsWaiting framing most bytes
ReadsBy framing most Is Bad bytes (Reads f size) = BeginsWithOne framing most bytes size (Is f)
ReadsBy framing most Is Bad bytes (Refuses words size) = BeginsWithOne framing most bytes size (Bad words)
ReadsBy framing most Is Bad bytes (Stops words) = IsStopped framing most bytes words

-- each frame is one thing, or is refused in one way
pub record Means (Is : LinkFrame → List ℕ → Type 0) (Bad : List ℕ → List ℕ → Type 0) : Type 0 where
  pub some : (frame : List ℕ) → ((f : LinkFrame) × Is f frame) ⊎ ((words : List ℕ) × Bad words frame)
  pub one_frame : (f g : LinkFrame) (frame : List ℕ) → Is f frame → Is g frame → f ≡ g
  pub one_reason : (x y frame : List ℕ) → Bad x frame → Bad y frame → x ≡ y
  pub accepted : (f : LinkFrame) (words frame : List ℕ) → Is f frame → Bad words frame → ⊥

-- ---- what is written

pub of_wrapped : (framing : Framing) (frame : List ℕ) → (wrapped framing frame).frame ≡ frame
of_wrapped Record frame = refl
of_wrapped Length frame = refl

-- a spelling has a byte at least, and at most five more than its frame
record HasSize (spelling frame : List ℕ) : Type 0 where
  some : 0 < length spelling
  bounded : length spelling ≤ length frame + most_framing

size_of : (framing : Framing) (spelling frame : List ℕ) → IsSpelling framing spelling frame → HasSize spelling frame
size_of Record spelling frame h = record { some = omega (arith, ap length h.0, length-append frame (30 ∷ [])); bounded = omega (arith, ap length h.0, length-append frame (30 ∷ [])) }
size_of Length spelling frame h =
    let v = h.1.0 in
    let n = ap length h.1.1 in
    record {
      some = omega (arith, n, length-append h.0 frame, ap length v.parts, length-append v.front (v.last ∷ []));
      bounded = omega (arith, n, length-append h.0 frame, v.short);
    }

shortest_length : (room number : ℕ) → length (shortest_in room number) ≤ room + 1
shortest_length zero number = omega arith
shortest_length (suc room) number =
    cond_both (nat_lt number 128) (number ∷ []) ((128 + number % 128) ∷ shortest_in room (number / 128)) (λ s. length s ≤ suc room + 1) (λ _. omega arith) (λ _. omega (arith, shortest_length room (number / 128)))

prefix_length : (number : ℕ) → length (shortest number) ≤ 5
unfolding shortest
prefix_length number = shortest_length 4 number

pub wrapped_length : (framing : Framing) (frame : List ℕ) → (length frame ≤ length (wrapped framing frame).spelling) × (length (wrapped framing frame).spelling ≤ length frame + most_framing)
wrapped_length Record frame = (omega (arith, length-append frame (30 ∷ [])), omega (arith, length-append frame (30 ∷ [])))
wrapped_length Length frame =
    let n = length-append (shortest (length frame)) frame in
    (omega (arith, n), omega (arith, n, prefix_length (length frame)))

-- ---- bytes begin once

one_item : BeginsOnce → (framing : Framing) (most : ℕ) (bytes : List ℕ) (x y : Spelled) → BeginsWith framing most bytes x → BeginsWith framing most bytes y → x ≡ y
one_item once framing most bytes x y p q = once framing most bytes [] x y p (subst (λ (b : List ℕ). BeginsWith framing most b y) (sym (append-nil bytes)) q)

item_length : (framing : Framing) (most : ℕ) (bytes : List ℕ) (x : Spelled) → BeginsWith framing most bytes x → length x.spelling ≤ length bytes
item_length framing most bytes x p = omega (arith, ap length p.front, length-append x.spelling (drop (length x.spelling) bytes))

grown : (framing : Framing) (most : ℕ) (bytes more : List ℕ) (x : Spelled) → BeginsWith framing most bytes x → BeginsWith framing most (bytes ++ more) x
grown framing most bytes more x p =
    let n = length x.spelling in
    let tail : drop n (bytes ++ more) ≡ drop n bytes ++ more = drop-append-le n bytes more (item_length framing most bytes x p) in
    record {
      is_frame = p.is_frame;
      front = ap (λ (b : List ℕ). b ++ more) p.front ∙ append_assoc x.spelling (drop n bytes) more ∙ ap (λ (b : List ℕ). x.spelling ++ b) (sym tail);
    }

one_word : HasOneBeginning → (framing : Framing) (most : ℕ) (bytes x y : List ℕ) → IsStopped framing most bytes x → IsStopped framing most bytes y → x ≡ y
one_word one framing most bytes x y (inl p) (inl q) = p.1 ∙ sym q.1
one_word one framing most bytes x y (inl p) (inr q) = absurd ((one framing most bytes).one_fault p.0 q.0)
one_word one framing most bytes x y (inr p) (inl q) = absurd ((one framing most bytes).one_fault q.0 p.0)
one_word one framing most bytes x y (inr p) (inr q) = p.1 ∙ sym q.1

faulty : (framing : Framing) (most : ℕ) (bytes words : List ℕ) → IsStopped framing most bytes words → IsFaulty framing most bytes
faulty framing most bytes words (inl p) = inl p.0
faulty framing most bytes words (inr p) = inr p.0

module _ (framing : Framing) (most : ℕ) (Is : LinkFrame → List ℕ → Type 0) (Bad : List ℕ → List ℕ → Type 0) (means : Means Is Bad) (begins : BeginsOnce) (one : HasOneBeginning) where
  same_reads : (bytes : List ℕ) (f g : LinkFrame) (m n : ℕ) → BeginsWithOne framing most bytes m (Is f) → BeginsWithOne framing most bytes n (Is g) → Reads f m ≡ Reads g n
  same_reads bytes f g m n p q =
      let e : p.0 ≡ q.0 = one_item begins framing most bytes p.0 q.0 p.1.0 q.1.0 in
      let frames : f ≡ g = means.one_frame f g q.0.frame (subst (λ (x : Spelled). Is f x.frame) e p.1.2) q.1.2 in
      let sizes : m ≡ n = p.1.1 ∙ ap (λ (x : Spelled). length x.spelling) e ∙ sym q.1.1 in
      λ i. Reads (frames i) (sizes i)

  same_refuses : (bytes x y : List ℕ) (m n : ℕ) → BeginsWithOne framing most bytes m (Bad x) → BeginsWithOne framing most bytes n (Bad y) → Refuses x m ≡ Refuses y n
  same_refuses bytes x y m n p q =
      let e : p.0 ≡ q.0 = one_item begins framing most bytes p.0 q.0 p.1.0 q.1.0 in
      let words : x ≡ y = means.one_reason x y q.0.frame (subst (λ (z : Spelled). Bad x z.frame) e p.1.2) q.1.2 in
      let sizes : m ≡ n = p.1.1 ∙ ap (λ (z : Spelled). length z.spelling) e ∙ sym q.1.1 in
      λ i. Refuses (words i) (sizes i)

  not_both : (bytes : List ℕ) (f : LinkFrame) (words : List ℕ) (m n : ℕ) → BeginsWithOne framing most bytes m (Is f) → BeginsWithOne framing most bytes n (Bad words) → ⊥
  not_both bytes f words m n p q =
      let e : p.0 ≡ q.0 = one_item begins framing most bytes p.0 q.0 p.1.0 q.1.0 in
      means.accepted f words q.0.frame (subst (λ (x : Spelled). Is f x.frame) e p.1.2) q.1.2

  stopped : (bytes words : List ℕ) (item : Spelled) → BeginsWith framing most bytes item → IsStopped framing most bytes words → ⊥
  stopped bytes words item b s = (one framing most bytes).frame_is_no_fault item b (faulty framing most bytes words s)

  -- bytes are read in one way
  pub once : (bytes : List ℕ) (x y : Reading) → ReadsBy framing most Is Bad bytes x → ReadsBy framing most Is Bad bytes y → x ≡ y
  once bytes Waits Waits p q = refl
  once bytes Waits (Reads g n) p q = absurd (p.no_frame q.0 q.1.0)
  once bytes Waits (Refuses y n) p q = absurd (p.no_frame q.0 q.1.0)
  once bytes Waits (Stops y) p q = absurd (p.no_fault (faulty framing most bytes y q))
  once bytes (Reads f m) Waits p q = absurd (q.no_frame p.0 p.1.0)
  once bytes (Reads f m) (Reads g n) p q = same_reads bytes f g m n p q
  once bytes (Reads f m) (Refuses y n) p q = absurd (not_both bytes f y m n p q)
  once bytes (Reads f m) (Stops y) p q = absurd (stopped bytes y p.0 p.1.0 q)
  once bytes (Refuses x m) Waits p q = absurd (q.no_frame p.0 p.1.0)
  once bytes (Refuses x m) (Reads g n) p q = absurd (not_both bytes g x n m q p)
  once bytes (Refuses x m) (Refuses y n) p q = same_refuses bytes x y m n p q
  once bytes (Refuses x m) (Stops y) p q = absurd (stopped bytes y p.0 p.1.0 q)
  once bytes (Stops x) Waits p q = absurd (q.no_fault (faulty framing most bytes x p))
  once bytes (Stops x) (Reads g n) p q = absurd (stopped bytes x q.0 q.1.0 p)
  once bytes (Stops x) (Refuses y n) p q = absurd (stopped bytes x q.0 q.1.0 p)
  once bytes (Stops x) (Stops y) p q = ap (λ (w : List ℕ). Stops w) (one_word one framing most bytes x y p q)

  by_frame : (bytes : List ℕ) (item : Spelled) → BeginsWith framing most bytes item → ((f : LinkFrame) × Is f item.frame) ⊎ ((words : List ℕ) × Bad words item.frame)
      → (r : Reading) × ReadsBy framing most Is Bad bytes r
  by_frame bytes item b (inl h) = (Reads h.0 (length item.spelling), (item, (b, refl, h.1)))
  by_frame bytes item b (inr h) = (Refuses h.0 (length item.spelling), (item, (b, refl, h.1)))

  by_beginning : (bytes : List ℕ) → ((item : Spelled) × BeginsWith framing most bytes item) ⊎ (IsFaulty framing most bytes ⊎ IsWaiting framing most bytes)
      → (r : Reading) × ReadsBy framing most Is Bad bytes r
  by_beginning bytes (inl h) = by_frame bytes h.0 h.1 (means.some h.0.frame)
  by_beginning bytes (inr (inl (inl long))) = (Stops (codes "TooLong"), inl (long, refl))
  by_beginning bytes (inr (inl (inr bad))) = (Stops (codes "BadLength"), inr (bad, refl))
  by_beginning bytes (inr (inr waits)) = (Waits, waits)

  -- and in some way
  pub reading : (bytes : List ℕ) → (r : Reading) × ReadsBy framing most Is Bad bytes r
  reading bytes = by_beginning bytes (one framing most bytes).some

  module _ (reader : List ℕ → Reading) (reads : (bytes : List ℕ) → ReadsBy framing most Is Bad bytes (reader bytes)) where
    said : (bytes : List ℕ) (r : Reading) → reader bytes ≡ r → ReadsBy framing most Is Bad bytes r
    said bytes r e = subst (ReadsBy framing most Is Bad bytes) e (reads bytes)

    -- what is written of a frame is read as it
    pub is_read : TooLongBeginsNone → BadLengthBeginsNone → WrappedBegins → (frame : List ℕ) (f : LinkFrame) → CanWrap framing frame → length frame ≤ most → Is f frame → IsRead reader (wrapped framing frame).spelling f
    is_read too_long bad_length begins_wrapped frame f can le is =
        let w : Spelled = wrapped framing frame in
        let spelled : List ℕ = w.spelling in
        let at : (more : List ℕ) → BeginsWith framing most (spelled ++ more) w = λ more. begins_wrapped framing most frame more can le in
        record {
          nonempty = (size_of framing w.spelling w.frame (at []).is_frame.spells).some;
          whole = λ rest. once (spelled ++ rest) (reader (spelled ++ rest)) (Reads f (length spelled)) (reads (spelled ++ rest)) (w, (at rest, refl, subst (Is f) (sym (of_wrapped framing frame)) is));
          waits = λ front rest e some.
              let there : BeginsWith framing most (front ++ rest) w = subst (λ (b : List ℕ). BeginsWith framing most b w) (append-nil spelled ∙ sym e) (at []) in
              let shorter : length front < length spelled = omega (arith, ap length e, length-append front rest, some) in
              let none : (item : Spelled) → BeginsWith framing most front item → ⊥ = λ item b.
              let same : item ≡ w = begins framing most front rest item w b there in
              absurd (omega (arith, shorter, item_length framing most front item b, ap (λ (x : Spelled). length x.spelling) same)) in
              once front (reader front) Waits (reads front) (record {
                no_frame = none;
                no_fault = λ h. elim h [ inl long ↦ too_long framing most front rest w long there | inr bad ↦ bad_length framing most front rest w bad there ];
              });
        }

    -- such a reader is sound
    sized : (limits : Limits) → limits.frame ≡ most → (bytes : List ℕ) (size : ℕ) (item : Spelled) → BeginsWith framing most bytes item → size ≡ length item.spelling → IsSize limits bytes size
    sized limits e bytes size item b s =
        let h = size_of framing item.spelling item.frame b.is_frame.spells in
        record {
          some = omega (arith, h.some, s);
          there = omega (arith, item_length framing most bytes item b, s);
          bounded = omega (arith, h.bounded, s, e, b.is_frame.short);
        }

    stays : TooLongStays → BadLengthStays → (bytes more : List ℕ) (r : Reading) → (r ≡ Waits → ⊥) → ReadsBy framing most Is Bad bytes r → ReadsBy framing most Is Bad (bytes ++ more) r
    stays long bad bytes more Waits some h = absurd (some refl)
    stays long bad bytes more (Reads f size) some h = (h.0, (grown framing most bytes more h.0 h.1.0, h.1.1, h.1.2))
    stays long bad bytes more (Refuses words size) some h = (h.0, (grown framing most bytes more h.0 h.1.0, h.1.1, h.1.2))
    stays long bad bytes more (Stops words) some (inl h) = inl (long framing most bytes more h.0, h.1)
    stays long bad bytes more (Stops words) some (inr h) = inr (bad framing bytes more h.0, h.1)

    pub sound_reader : EmptyWaits → WaitingHasRoom → TooLongStays → BadLengthStays → (limits : Limits) → limits.frame ≡ most → (IsKind : LinkFrame → Type 0) → ((f : LinkFrame) (frame : List ℕ) → Is f frame → IsKind f)
        → IsSoundReader limits IsKind reader
    sound_reader empty room long bad limits e IsKind kind = record {
      empty = once [] (reader []) Waits (reads []) (empty framing most);
      unfilled = λ bytes h. omega (arith, room framing most bytes (said bytes Waits h), e);
      reads = λ bytes f size h. let s = said bytes (Reads f size) h in (kind f s.0.frame s.1.2, sized limits e bytes size s.0 s.1.0 s.1.1);
      refuses = λ bytes why size h. let s = said bytes (Refuses why size) h in sized limits e bytes size s.0 s.1.0 s.1.1;
      steady = λ bytes more some. once (bytes ++ more) (reader (bytes ++ more)) (reader bytes) (reads (bytes ++ more)) (stays long bad bytes more (reader bytes) some (reads bytes));
    }
