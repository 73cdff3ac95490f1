-- Rising lists of numbers: what is found in one.
use Rattle.std.proofs.Common.{◌≡◌, ℕ, zero, suc, ◌<◌, ◌≤◌, Bool, true, false, ◌||◌, List, [], ◌∷◌, length, get_or, Result, Ok, Err, is_ok, nat_cmp}
use Rattle.std.proofs.Common.{refl, ap, sym, subst, ◌∙◌, arith, inl, inr}
use Rattle.std.specs.Prelude.{◌==◌}
use Rattle.std.proofs.lemmas.Bool.{cases_lt, eq-eqb, eqb-true, false_from_ne_true}
use Rattle.std.proofs.lemmas.List.Sorted.{searched}
use Rattle.std.specs.List.Sorted.{IsBinarySearchResult}
use Rattle.hv_value.specs.SortedSet.{IsRising, is_in}

-- what has a place is in the list
pub in_at : (k : ℕ) (cs : List ℕ) → k < length cs → is_in (get_or cs k 0) cs ≡ true
in_at k [] l = absurd (omega (arith, l))
in_at zero (c ∷ cs) l = ap (λ b. b || is_in c cs) (eq-eqb c c refl)
in_at (suc k) (c ∷ cs) l = later (get_or cs k 0 == c) (is_in (get_or cs k 0) cs) (in_at k cs (omega (arith, l)))
  where
    later : (a b : Bool) → b ≡ true → (a || b) ≡ true
    later true b e = refl
    later false b e = e

no_less : (xs : List ℕ) → IsRising xs → (i j : ℕ) → i ≤ j → j < length xs → get_or xs i 0 ≤ get_or xs j 0
no_less [] rising i j l m = absurd (omega (arith, m))
no_less (x ∷ xs) rising zero zero l m = omega arith
no_less (x ∷ xs) rising zero (suc j) l m = let later = rising.0 (get_or xs j 0) (in_at j xs (omega (arith, m))) in omega (arith, later)
no_less (x ∷ xs) rising (suc i) zero l m = absurd (omega (arith, l))
no_less (x ∷ xs) rising (suc i) (suc j) l m = no_less xs rising.1 i j (omega (arith, l)) (omega (arith, m))

-- what a search finds is in the list
pub found_in : (n : ℕ) (xs ys : List ℕ) (r : Result ℕ ℕ) (found : Bool) → ys ≡ xs → IsBinarySearchResult (λ y. nat_cmp y n) ys r → IsRising xs
    → found ≡ is_ok r → found ≡ true → is_in n xs ≡ true
found_in n xs ys (Ok i) found same is rising e f =
    let at = searched xs n (Ok i) (subst (λ zs. IsBinarySearchResult (λ y. nat_cmp y n) zs (Ok i)) same is) (no_less xs rising) in
    subst (λ k. is_in k xs ≡ true) at.1 (in_at i xs at.0)
found_in n xs ys (Err i) found same is rising e f = absurd (let z : false ≡ true = sym e ∙ f in cc)

-- what is in a list has a place
at_in : (n : ℕ) (xs : List ℕ) → is_in n xs ≡ true → (k : ℕ) × (k < length xs) × (n ≡ get_or xs k 0)
at_in n [] e = absurd (let z : false ≡ true = e in cc)
at_in n (x ∷ xs) e = go (n == x) refl e (at_in n xs)
  where
    go : (b : Bool) → (n == x) ≡ b → (b || is_in n xs) ≡ true → (is_in n xs ≡ true → (k : ℕ) × (k < length xs) × (n ≡ get_or xs k 0))
        → (k : ℕ) × (k < suc (length xs)) × (n ≡ get_or (x ∷ xs) k 0)
    go true f g later = (0, omega arith, eqb-true n x f)
    go false f g later = let w = later g in (suc w.0, omega (arith, w.1), w.2)

-- and what it doesn't find isn't
pub missed_in : (n : ℕ) (xs ys : List ℕ) (r : Result ℕ ℕ) (found : Bool) → ys ≡ xs → IsBinarySearchResult (λ y. nat_cmp y n) ys r → IsRising xs
    → found ≡ is_ok r → found ≡ false → is_in n xs ≡ false
missed_in n xs ys (Ok i) found same is rising e f = absurd (let z : true ≡ false = sym e ∙ f in cc)
missed_in n xs ys (Err i) found same is rising e f = false_from_ne_true (is_in n xs) (λ g.
    let at = searched xs n (Err i) (subst (λ zs. IsBinarySearchResult (λ y. nat_cmp y n) zs (Err i)) same is) (no_less xs rising) in
    let w = at_in n xs g in
    elim (cases_lt w.0 i) [
      | inl before ↦ (let l = at.1 w.0 before in let v = w.2 in omega (arith, l, v))
      | inr from ↦ (let l = at.2 w.0 from w.1 in let v = w.2 in omega (arith, l, v))
    ])

-- so it tells whether it is
pub told_in : (n : ℕ) (xs ys : List ℕ) (r : Result ℕ ℕ) (found : Bool) → ys ≡ xs → IsBinarySearchResult (λ y. nat_cmp y n) ys r → IsRising xs
    → found ≡ is_ok r → found ≡ is_in n xs
told_in n xs ys r found same is rising e = by found refl
  where
    by : (b : Bool) → found ≡ b → found ≡ is_in n xs
    by true f = f ∙ sym (found_in n xs ys r found same is rising e f)
    by false f = f ∙ sym (missed_in n xs ys r found same is rising e f)
