-- A moment that has come comes once.
use Rattle.std.proofs.Common.{refl, ap, subst, ◌∙◌, ◌≡◌, ℕ, Bool, true, false, List, [], ◌∷◌, arith, filter, if◌then◌else◌}
use Rattle.std.specs.Prelude.{◌==◌, ◌+◌, is_some}
use Rattle.std.specs.Cmp.{nat_eq_equiv}
use Rattle.std.proofs.lemmas.Bool.{or_parts, eqb-true, eq-eqb, lt-leb}
use Rattle.hd_server.specs.declared.vocabulary.Life.{Life}
use Rattle.hd_server.specs.declared.vocabulary.Life.TheVariants.{Unknown, Fresh, Socket, Lost, Polling, Ending}
use Rattle.hd_server.specs.Numbers.{lives_for}
use Rattle.hd_server.specs.Lives.{ConnectionEvent, Expired, deadline, ended_at, is_removed, is_past, made, numbers_to, only_polls, since}
use Rattle.hd_server.specs.Laws.{MomentsComeOnce}
use Rattle.hd_server.proofs.Flushing.{is_in, AreApart, numbers_apart}

-- ---- of those that pass a test, the first doesn't pass any more

module _ (p q : ℕ → Bool) (c : ℕ) (gone : q c ≡ false) (same : (k : ℕ) → (k == c) ≡ false → q k ≡ p k) where
  elsewhere : (xs : List ℕ) → is_in c xs ≡ false → filter q xs ≡ filter p xs
  elsewhere [] e = refl
  elsewhere (x ∷ xs) e =
      let parts = or_parts (c == x) (is_in c xs) e in
      let other : (x == c) ≡ false = nat_eq_equiv.symm x c ∙ parts.0 in
      rw (same x other, elsewhere xs parts.1) refl

  first_goes : (xs rest : List ℕ) → AreApart xs → filter p xs ≡ c ∷ rest → filter q xs ≡ rest
  first_goes [] rest a e = absurd (cc)
  first_goes (x ∷ xs) rest a e = by (p x) refl e (first_goes xs rest a.1) where
    fails : (b : Bool) → (x == c) ≡ b → p x ≡ false → q x ≡ false
    fails true f g = ap q (eqb-true x c f) ∙ gone
    fails false f g = same x f ∙ g

    by : (b : Bool) → p x ≡ b → (if b then x ∷ filter p xs else filter p xs) ≡ c ∷ rest → (filter p xs ≡ c ∷ rest → filter q xs ≡ rest)
        → filter q (x ∷ xs) ≡ rest
    by true f g further =
        let here : x ≡ c = cc in
        let left : filter p xs ≡ rest = cc in
        let out : q x ≡ false = ap q here ∙ gone in
        rw out (elsewhere xs (subst (λ y. is_in y xs ≡ false) here a.0) ∙ left)
    by false f g further = rw (fails (x == c) refl f) (further g)

-- ---- what a note of one connection that has expired changes

module _ (c now : ℕ) (h : List ConnectionEvent) where
  since_other : (k : ℕ) (life : Life) → (k == c) ≡ false → since k life (Expired c now ∷ h) ≡ since k life h
  since_other k Unknown e = refl
  since_other k Fresh e = refl
  since_other k (Socket lane) e = refl
  since_other k Lost e = refl
  since_other k Polling e = refl
  since_other k Ending e = rw e refl

  -- of another nothing
  of_another : (k : ℕ) → (k == c) ≡ false → is_past now (deadline k (Expired c now ∷ h)) ≡ is_past now (deadline k h)
  of_another k e = rw (e, since_other k _ e) refl

  -- its own moment is past no more: it is let go, or its token begins to end
  own : (polls ended gone : Bool) → only_polls c h ≡ polls → is_some (ended_at c h) ≡ ended → is_removed c h ≡ gone
      → is_past now (deadline c (Expired c now ∷ h)) ≡ false
  own false ended gone e f g = rw (eq-eqb c c refl, e) refl
  own true true gone e f g = rw (eq-eqb c c refl, e, f) refl
  own true false true e f g = rw (eq-eqb c c refl, e, f, g) refl
  own true false false e f g = rw (eq-eqb c c refl, e, f, g) (rw (eq-eqb c c refl, e, f) (lt-leb (now + lives_for) now (omega arith)))

pub moments_come_once : MomentsComeOnce
moments_come_once c rest now h =
    first_goes (λ k. is_past now (deadline k h)) (λ k. is_past now (deadline k (Expired c now ∷ h))) c
    (own c now h (only_polls c h) (is_some (ended_at c h)) (is_removed c h) refl refl refl)
    (of_another c now h)
    (numbers_to (made h)) rest (numbers_apart (made h))
