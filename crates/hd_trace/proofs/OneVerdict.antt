-- One verdict, of lines of any kind that tell something.
use Rattle.std.proofs.Common.{inl, inr, ◌≡◌, ℕ, List, [], ◌∷◌, ◌++◌, refl, sym, ap, ◌∙◌, subst}
use Rattle.std.specs.Prelude.{◌⊎◌}
use Rattle.hd_trace.specs.declared.trace.Rule.{Rule}
use Rattle.hd_trace.specs.Breaking.{number_after, BreaksOffBy}
use Rattle.hd_trace.specs.Laws.{HasOneVerdict}

-- of two places in one list either is the other or stands before it
splits : (L : Type 0) (xs ys p q : List L) (a b : L) → xs ++ a ∷ p ≡ ys ++ b ∷ q
    → ((a ≡ b) × (p ≡ q)) ⊎ (((z : List L) × (q ≡ z ++ a ∷ p)) ⊎ ((z : List L) × (p ≡ z ++ b ∷ q)))
splits L [] [] p q a b e = let f : a ∷ p ≡ b ∷ q = e in let h : a ≡ b = cc in let t : p ≡ q = cc in inl (h, t)
splits L [] (y ∷ ys) p q a b e = let f : a ∷ p ≡ y ∷ (ys ++ b ∷ q) = e in let t : p ≡ ys ++ b ∷ q = cc in inr (inr (ys, t))
splits L (x ∷ xs) [] p q a b e = let f : x ∷ (xs ++ a ∷ p) ≡ b ∷ q = e in let t : q ≡ xs ++ a ∷ p = cc in inr (inl (xs, t))
splits L (x ∷ xs) (y ∷ ys) p q a b e =
    let f : x ∷ (xs ++ a ∷ p) ≡ y ∷ (ys ++ b ∷ q) = e in
    let t : xs ++ a ∷ p ≡ ys ++ b ∷ q = cc in
    splits L xs ys p q a b t

module _ (L T : Type 0) (Tell : List L → T → Type 0) (Breaking : List L → L → T → Rule → Type 0)
    (one : (ls : List L) (v w : T) → Tell ls v → Tell ls w → v ≡ w)
    (front : (l : L) (ls : List L) (w : T) → Tell (l ∷ ls) w → (v : T) × Tell ls v)
    (ends : (l : L) (ls : List L) (v w : T) (r : Rule) → Breaking ls l v r → Tell ls v → Tell (l ∷ ls) w → ⊥)
    (one_rule : (l : L) (ls : List L) (v : T) (q r : Rule) → Breaking ls l v q → Breaking ls l v r → q ≡ r)
    (goes_on : (l : L) (ls : List L) (v : T) → Tell ls v → ((r : Rule) → Breaking ls l v r → ⊥) → ((w : T) → Tell (l ∷ ls) w → ⊥) → ⊥)
    (start : T) (starts : Tell [] start) where
  -- the lines before tell something too
  back : (zs ls : List L) (w : T) → Tell (zs ++ ls) w → (v : T) × Tell ls v
  back [] ls w t = (w, t)
  back (z ∷ zs) ls w t = let u = front z (zs ++ ls) w t in back zs ls u.0 u.1

  -- lines that go on after the break tell nothing
  not_told : (zs : List L) (l : L) (ls : List L) (v w : T) (r : Rule) → Breaking ls l v r → Tell ls v → Tell (zs ++ l ∷ ls) w → ⊥
  not_told zs l ls v w r b t u = let o = back zs (l ∷ ls) w u in ends l ls v o.0 r b t o.1

  apart : (ls : List L) (w : T) (n : ℕ) (r : Rule) → Tell ls w → BreaksOffBy Tell Breaking ls n r → ⊥
  apart ls w n r t b = not_told b.after b.line b.before b.session w r b.breaks b.tells (subst (λ z. Tell z w) b.lines_are t)

  same_rule : (l m : L) (p s : List L) (v w : T) (q r : Rule) → l ≡ m → p ≡ s → Tell p v → Tell s w → Breaking p l v q → Breaking s m w r → q ≡ r
  same_rule l m p s v w q r e f t u a b =
      let here : Tell s v = subst (λ z. Tell z v) f t in
      let a₁ : Breaking s l v q = subst (λ z. Breaking z l v q) f a in
      let a₂ : Breaking s m v q = subst (λ z. Breaking s z v q) e a₁ in
      let a₃ : Breaking s m w q = subst (λ z. Breaking s m z q) (one s v w here u) a₂ in
      one_rule m s w q r a₃ b

  once : (ls : List L) (m n : ℕ) (q r : Rule) → BreaksOffBy Tell Breaking ls m q → BreaksOffBy Tell Breaking ls n r → (m ≡ n) × (q ≡ r)
  once ls m n q r a b = go (splits L a.after b.after a.before b.before a.line b.line (sym a.lines_are ∙ b.lines_are))
    where
      go : ((a.line ≡ b.line) × (a.before ≡ b.before))
          ⊎ (((z : List L) × (b.before ≡ z ++ a.line ∷ a.before)) ⊎ ((z : List L) × (a.before ≡ z ++ b.line ∷ b.before)))
          → (m ≡ n) × (q ≡ r)
      go (inl same) = (
        a.number_is ∙ (ap number_after same.1 ∙ sym b.number_is),
        same_rule a.line b.line a.before b.before a.session b.session q r same.0 same.1 a.tells b.tells a.breaks b.breaks,
      )
      go (inr (inl z)) = absurd (not_told z.0 a.line a.before a.session b.session q a.breaks a.tells (subst (λ y. Tell y b.session) z.1 b.tells))
      go (inr (inr z)) = absurd (not_told z.0 b.line b.before b.session a.session r b.breaks b.tells (subst (λ y. Tell y a.session) z.1 a.tells))

  some : (ls : List L) → ((w : T) → Tell ls w → ⊥) → ((n : ℕ) (r : Rule) → BreaksOffBy Tell Breaking ls n r → ⊥) → ⊥
  some [] tells breaks = tells start starts
  some (l ∷ ls) tells breaks = some ls
      (λ w t. goes_on l ls w t
      (λ r b. breaks (number_after ls) r (record { before = ls; line = l; after = []; session = w; lines_are = refl; number_is = refl; tells = t; breaks = b }))
      tells)
      (λ n r b. breaks n r (record {
        before = b.before;
        line = b.line;
        after = l ∷ b.after;
        session = b.session;
        lines_are = ap (λ z. l ∷ z) b.lines_are;
        number_is = b.number_is;
        tells = b.tells;
        breaks = b.breaks;
      }))

  pub one_verdict : (ls : List L) → HasOneVerdict Tell Breaking ls
  one_verdict ls = record { apart = apart ls; once = once ls; some = some ls }
