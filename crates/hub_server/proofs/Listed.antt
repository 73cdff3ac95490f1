-- Which connections are listed.
use Rattle.std.proofs.Common.{◌≡◌, ℕ, Bool, true, false, List, [], ◌∷◌, ◌++◌, filter, refl, sym, ap, ◌∙◌, if◌then◌else◌}
use Rattle.std.specs.Prelude.{◌==◌, ◌&&◌, ◌||◌}
use Rattle.std.proofs.lemmas.Bool.{eqb-true, eq-eqb}
use Rattle.hub_machine.specs.Spreads.{is_listed}

pub first_is_listed : (c : ℕ) (cs : List ℕ) → is_listed c (c ∷ cs) ≡ true
first_is_listed c cs = ap (λ (b : Bool). b || is_listed c cs) (eq-eqb c c refl)

-- what is listed later is listed
pub later_listed : (c k : ℕ) (cs : List ℕ) → is_listed c cs ≡ true → is_listed c (k ∷ cs) ≡ true
later_listed c k cs e = by (c == k)
  where
    by : (b : Bool) → (b || is_listed c cs) ≡ true
    by true = refl
    by false = e

-- it is one of these, or the one after them
pub listed_last : (k c : ℕ) (cs : List ℕ) → is_listed k (cs ++ c ∷ []) ≡ (is_listed k cs || (k == c))
listed_last k c [] = go (k == c)
  where
    go : (b : Bool) → (b || false) ≡ b
    go true = refl
    go false = refl
listed_last k c (d ∷ cs) = ap (λ (b : Bool). (k == d) || b) (listed_last k c cs) ∙ go (k == d)
  where
    go : (b : Bool) → (b || (is_listed k cs || (k == c))) ≡ ((b || is_listed k cs) || (k == c))
    go true = refl
    go false = refl

-- of those that pass a test the same ones are listed, as far as they pass it
pub listed_filter : (p : ℕ → Bool) (c : ℕ) (xs : List ℕ) → is_listed c (filter p xs) ≡ (p c && is_listed c xs)
listed_filter p c [] = none (p c)
  where
    none : (b : Bool) → false ≡ (b && false)
    none true = refl
    none false = refl
listed_filter p c (x ∷ xs) = by (p x) refl (c == x) refl (listed_filter p c xs)
  where
    by : (b : Bool) → p x ≡ b → (same : Bool) → (c == x) ≡ same → is_listed c (filter p xs) ≡ (p c && is_listed c xs)
        → is_listed c (if b then x ∷ filter p xs else filter p xs) ≡ (p c && (same || is_listed c xs))
    by true e true f g =
        ap (λ (b : Bool). b || is_listed c (filter p xs)) f ∙ ap (λ (b : Bool). b && true) (sym (ap p (eqb-true c x f) ∙ e))
    by true e false f g = ap (λ (b : Bool). b || is_listed c (filter p xs)) f ∙ g
    by false e true f g =
        let fails : p c ≡ false = ap p (eqb-true c x f) ∙ e in
        g ∙ ap (λ (b : Bool). b && is_listed c xs) fails ∙ ap (λ (b : Bool). b && true) (sym fails)
    by false e false f g = g
