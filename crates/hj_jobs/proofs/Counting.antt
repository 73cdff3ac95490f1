-- How many numbers below a bound pass a test, against another test, and against a rising list of those that pass; and sums over such numbers.
use Rattle.std.proofs.Common.{◌≡◌, ℕ, zero, suc, ◌+◌, ◌*◌, ◌<◌, ◌≤◌, Bool, true, false, ◌||◌, ◌==◌, inl, inr, List, [], ◌∷◌, length, refl, sym, ap, ◌∙◌, arith, eq-eqb, ne_eqb, if◌then◌else◌}
use Rattle.std.proofs.lemmas.Bool.{or_left, or_right, false_from_ne_true, cases_lt, cases_eq}
use Rattle.std.proofs.Math.Nat.{suc-mul}
use Rattle.hd_calls.specs.Rules.{count_below, sum_below}
use Rattle.hv_value.specs.SortedSet.{is_in, IsRising}

-- ---- two tests

-- a test that passes what another passes, passes as many at least
pub count_more : (n : ℕ) (p q : ℕ → Bool) → ((j : ℕ) → j < n → p j ≡ true → q j ≡ true) → count_below n p ≤ count_below n q
count_more zero p q f = omega arith
count_more (suc n) p q f = go (p n) refl (q n) refl (count_more n p q (λ j l. f j (omega (arith, l))))
  where
    go : (a : Bool) → p n ≡ a → (b : Bool) → q n ≡ b → count_below n p ≤ count_below n q → (if a then suc (count_below n p) else count_below n p) ≤ (if b then suc (count_below n q) else count_below n q)
    go true e true g l = omega (arith, l)
    go true e false g l = absurd (let z : false ≡ true = sym g ∙ f n (omega arith) e in cc)
    go false e true g l = omega (arith, l)
    go false e false g l = l

pub count_same : (n : ℕ) (p q : ℕ → Bool) → ((j : ℕ) → j < n → p j ≡ q j) → count_below n p ≡ count_below n q
count_same zero p q f = refl
count_same (suc n) p q f = go (p n) (q n) (f n (omega arith)) (count_same n p q (λ j l. f j (omega (arith, l))))
  where
    go : (a b : Bool) → a ≡ b → count_below n p ≡ count_below n q → (if a then suc (count_below n p) else count_below n p) ≡ (if b then suc (count_below n q) else count_below n q)
    go true true e l = ap suc l
    go true false e l = absurd (let z : true ≡ false = e in cc)
    go false true e l = absurd (let z : false ≡ true = e in cc)
    go false false e l = l

-- and more, where it passes one that the other doesn't
pub count_fewer : (n : ℕ) (p q : ℕ → Bool) → ((j : ℕ) → j < n → p j ≡ true → q j ≡ true) → (i : ℕ) → i < n → p i ≡ false → q i ≡ true → count_below n p < count_below n q
count_fewer zero p q f i l a b = absurd (omega (arith, l))
count_fewer (suc n) p q f i l a b = elim (cases_eq i n) [ inl e ↦ last e | inr e ↦ go (p n) refl (q n) refl (count_fewer n p q (λ j m. f j (omega (arith, m))) i (omega (arith, l, e)) a b) ]
  where
    last : i ≡ n → count_below (suc n) p < count_below (suc n) q
    last e =
        let c = count_more n p q (λ j m. f j (omega (arith, m))) in
        let x : count_below (suc n) p ≡ count_below n p = ap (λ t. if t then suc (count_below n p) else count_below n p) (ap p (sym e) ∙ a) in
        let y : count_below (suc n) q ≡ suc (count_below n q) = ap (λ t. if t then suc (count_below n q) else count_below n q) (ap q (sym e) ∙ b) in
        omega (arith, c, x, y)

    go : (s : Bool) → p n ≡ s → (t : Bool) → q n ≡ t → count_below n p < count_below n q → (if s then suc (count_below n p) else count_below n p) < (if t then suc (count_below n q) else count_below n q)
    go true g true h c = omega (arith, c)
    go true g false h c = absurd (let z : false ≡ true = sym h ∙ f n (omega arith) g in cc)
    go false g true h c = omega (arith, c)
    go false g false h c = c

-- two tests that differ at one number alone, which the second passes
pub count_flipped : (n : ℕ) (p q : ℕ → Bool) (i : ℕ) → i < n → p i ≡ false → q i ≡ true → ((j : ℕ) → (j ≡ i → ⊥) → p j ≡ q j) → count_below n q ≡ suc (count_below n p)
count_flipped zero p q i l a b f = absurd (omega (arith, l))
count_flipped (suc n) p q i l a b f = elim (cases_eq i n) [ inl e ↦ last e | inr e ↦ go (p n) (q n) (f n (λ h. e (sym h))) (count_flipped n p q i (omega (arith, l, e)) a b f) ]
  where
    last : i ≡ n → count_below (suc n) q ≡ suc (count_below (suc n) p)
    last e =
        let c = count_same n p q (λ j m. f j (λ h. omega (arith, m, h, e))) in
        let x : count_below (suc n) p ≡ count_below n p = ap (λ t. if t then suc (count_below n p) else count_below n p) (ap p (sym e) ∙ a) in
        let y : count_below (suc n) q ≡ suc (count_below n q) = ap (λ t. if t then suc (count_below n q) else count_below n q) (ap q (sym e) ∙ b) in
        omega (arith, c, x, y)

    go : (s t : Bool) → s ≡ t → count_below n q ≡ suc (count_below n p) → (if t then suc (count_below n q) else count_below n q) ≡ suc (if s then suc (count_below n p) else count_below n p)
    go true true g c = ap suc c
    go true false g c = absurd (let z : true ≡ false = g in cc)
    go false true g c = absurd (let z : false ≡ true = g in cc)
    go false false g c = c

-- a test that passes nothing
pub count_none : (n : ℕ) (p : ℕ → Bool) → ((j : ℕ) → j < n → p j ≡ false) → count_below n p ≡ 0
count_none zero p f = refl
count_none (suc n) p f = ap (λ t. if t then suc (count_below n p) else count_below n p) (f n (omega arith)) ∙ count_none n p (λ j l. f j (omega (arith, l)))

-- ---- sums

-- two functions with the same values have one sum
pub sum_same : (n : ℕ) (f g : ℕ → ℕ) → ((j : ℕ) → j < n → f j ≡ g j) → sum_below n f ≡ sum_below n g
sum_same zero f g e = refl
sum_same (suc n) f g e =
    let a = e n (omega arith) in
    let b = sum_same n f g (λ j l. e j (omega (arith, l))) in
    omega (arith, a, b)

-- the sums of two functions that differ at one number differ as much
pub sum_changed : (n : ℕ) (f g : ℕ → ℕ) (i : ℕ) → i < n → ((j : ℕ) → (j ≡ i → ⊥) → f j ≡ g j) → sum_below n g + f i ≡ sum_below n f + g i
sum_changed zero f g i l e = absurd (omega (arith, l))
sum_changed (suc n) f g i l e = elim (cases_eq i n) [ inl z ↦ last z | inr z ↦ before z (sum_changed n f g i (omega (arith, l, z)) e) ]
  where
    last : i ≡ n → sum_below (suc n) g + f i ≡ sum_below (suc n) f + g i
    last z =
        let same = sum_same n f g (λ j m. e j (λ w. omega (arith, m, w, z))) in
        let a : f i ≡ f n = ap f z in
        let b : g i ≡ g n = ap g z in
        omega (arith, same, a, b)

    before : (i ≡ n → ⊥) → sum_below n g + f i ≡ sum_below n f + g i → sum_below (suc n) g + f i ≡ sum_below (suc n) f + g i
    before z rest =
        let a = e n (λ w. z (sym w)) in
        omega (arith, rest, a)

-- no part is more than the sum
pub sum_part : (n : ℕ) (f : ℕ → ℕ) (i : ℕ) → i < n → f i ≤ sum_below n f
sum_part zero f i l = absurd (omega (arith, l))
sum_part (suc n) f i l = elim (cases_eq i n) [ inl z ↦ last z | inr z ↦ before (sum_part n f i (omega (arith, l, z))) ]
  where
    last : i ≡ n → f i ≤ sum_below (suc n) f
    last z = let a : f i ≡ f n = ap f z in omega (arith, a)

    before : f i ≤ sum_below n f → f i ≤ sum_below (suc n) f
    before rest = omega (arith, rest)

-- a sum of parts of which those that fail a test are 0, and none is more than m
pub sum_within : (n : ℕ) (f : ℕ → ℕ) (p : ℕ → Bool) (m : ℕ) → ((j : ℕ) → p j ≡ true → f j ≤ m) → ((j : ℕ) → p j ≡ false → f j ≡ 0) → sum_below n f ≤ count_below n p * m
sum_within zero f p m a b = omega arith
sum_within (suc n) f p m a b = go (p n) refl (sum_within n f p m a b)
  where
    go : (t : Bool) → p n ≡ t → sum_below n f ≤ count_below n p * m → f n + sum_below n f ≤ (if t then suc (count_below n p) else count_below n p) * m
    go true e rest =
        let x = a n e in
        let y = suc-mul (count_below n p) m in
        omega (arith, rest, x, y)
    go false e rest = let x = b n e in omega (arith, rest, x)

-- ---- against a list

-- the test that one number passes besides those that another passes
pub count_one_more : (n : ℕ) (p : ℕ → Bool) (i : ℕ) → i < n → p i ≡ false → count_below n (λ j. (j == i) || p j) ≡ suc (count_below n p)
count_one_more n p i l a = count_flipped n p (λ j. (j == i) || p j) i l a (or_left (i == i) (p i) (eq-eqb i i refl)) (λ j e. ap (λ t. t || p j) (sym (ne_eqb j i e)))

-- as many are in a rising list, if it has none of 0 and none past n, as there are numbers below n whose successors are in it
pub count_list : (n : ℕ) (xs : List ℕ) → IsRising xs → is_in 0 xs ≡ false → ((j : ℕ) → n ≤ j → is_in (suc j) xs ≡ false) → length xs ≡ count_below n (λ j. is_in (suc j) xs)
count_list n [] r z f = sym (count_none n (λ j. false) (λ j l. refl))
count_list n (zero ∷ xs) r z f = absurd (let e : true ≡ false = z in cc)
count_list n (suc x ∷ xs) r z f =
    let here : is_in (suc x) (suc x ∷ xs) ≡ true = or_left (suc x == suc x) (is_in (suc x) xs) (eq-eqb (suc x) (suc x) refl) in
    let small : x < n = elim (cases_lt x n) [ inl l ↦ l | inr l ↦ absurd (let e : true ≡ false = sym here ∙ f x l in cc) ] in
    let gone : is_in (suc x) xs ≡ false = false_from_ne_true (is_in (suc x) xs) (λ e. let l : suc x < suc x = r.0 (suc x) e in omega (arith, l)) in
    let rest = count_list n xs r.1 (rest_zero x xs z) (λ j l. rest_past x xs j (f j l)) in
    ap suc rest ∙ (sym (count_one_more n (λ j. is_in (suc j) xs) x small gone) ∙ count_same n (λ j. (j == x) || is_in (suc j) xs) (λ j. is_in (suc j) (suc x ∷ xs)) (λ j l. ap (λ t. t || is_in (suc j) xs) (suc_test j x)))
  where
    rest_zero : (x : ℕ) (xs : List ℕ) → is_in 0 (suc x ∷ xs) ≡ false → is_in 0 xs ≡ false
    rest_zero x xs e = false_from_ne_true (is_in 0 xs) (λ h. let z : true ≡ false = sym (or_right (0 == suc x) (is_in 0 xs) h) ∙ e in cc)

    rest_past : (x : ℕ) (xs : List ℕ) (j : ℕ) → is_in (suc j) (suc x ∷ xs) ≡ false → is_in (suc j) xs ≡ false
    rest_past x xs j e = false_from_ne_true (is_in (suc j) xs) (λ h. let z : true ≡ false = sym (or_right (suc j == suc x) (is_in (suc j) xs) h) ∙ e in cc)

    suc_test : (j x : ℕ) → (j == x) ≡ (suc j == suc x)
    suc_test j x = elim (cases_eq j x) [
      | inl e ↦ eq-eqb j x e ∙ sym (eq-eqb (suc j) (suc x) (ap suc e))
      | inr e ↦ ne_eqb j x e ∙ sym (ne_eqb (suc j) (suc x) (λ h. e (omega (arith, h))))
    ]

-- so where a test says which successors are in it, the list is as long as the test counts
pub count_due : (n : ℕ) (p : ℕ → Bool) (xs : List ℕ) → IsRising xs → is_in 0 xs ≡ false → ((j : ℕ) → is_in (suc j) xs ≡ p j) → ((j : ℕ) → n ≤ j → p j ≡ false) → length xs ≡ count_below n p
count_due n p xs r z same past = count_list n xs r z (λ j l. same j ∙ past j l) ∙ count_same n (λ j. is_in (suc j) xs) p (λ j l. same j)
