-- Counts and sums below a bound, where one place differs.
use Rattle.std.proofs.Common.{◌≡◌, ℕ, zero, suc, ◌<◌, ◌≤◌, ◌⊎◌, inl, inr, Bool, true, false, refl, sym, ap, ◌∙◌, arith}
use Rattle.std.specs.Prelude.{◌+◌, if◌then◌else◌}
use Rattle.std.proofs.lemmas.Bool.{cases_eq, cases_lt}
use Rattle.hd_calls.specs.Rules.{count_below, sum_below}
use Rattle.hi_calls.specs.Maps.{one_if}

count_step : (b : Bool) (m : ℕ) → (if b then suc m else m) ≡ m + one_if b
count_step true m = omega arith
count_step false m = omega arith

pub count_same : (n : ℕ) (p q : ℕ → Bool) → ((k : ℕ) → k < n → p k ≡ q k) → count_below n p ≡ count_below n q
count_same zero p q e = refl
count_same (suc n) p q e =
    ap (λ b. if b then suc (count_below n p) else count_below n p) (e n (omega arith))
    ∙ ap (λ m. if q n then suc m else m) (count_same n p q (λ k l. e k (omega (arith, l))))

pub sum_same : (n : ℕ) (f g : ℕ → ℕ) → ((k : ℕ) → k < n → f k ≡ g k) → sum_below n f ≡ sum_below n g
sum_same zero f g e = refl
sum_same (suc n) f g e =
    let x = e n (omega arith) in
    let y = sum_same n f g (λ k l. e k (omega (arith, l))) in
    omega arith

-- two tests that agree but at one place
pub count_flip : (m n : ℕ) (p q : ℕ → Bool) → n < m → ((k : ℕ) → (k ≡ n → ⊥) → p k ≡ q k)
    → count_below m p + one_if (q n) ≡ count_below m q + one_if (p n)
count_flip zero n p q l e = absurd (omega arith)
count_flip (suc m) n p q l e = go (cases_eq m n) (λ k. count_flip m n p q k e)
  where
    go : (m ≡ n) ⊎ (m ≡ n → ⊥) → (n < m → count_below m p + one_if (q n) ≡ count_below m q + one_if (p n))
        → (if p m then suc (count_below m p) else count_below m p) + one_if (q n) ≡ (if q m then suc (count_below m q) else count_below m q) + one_if (p n)
    go (inl same) rec =
        let r = count_same m p q (λ k j. e k (λ z. omega (arith, j, z))) in
        let a = count_step (p m) (count_below m p) in
        let b = count_step (q m) (count_below m q) in
        let x = ap (λ k. one_if (p k)) same in
        let y = ap (λ k. one_if (q k)) same in
        omega arith
    go (inr other) rec =
        let r = rec (omega arith) in
        let a = count_step (p m) (count_below m p) in
        let b = count_step (q m) (count_below m q) in
        let x = ap one_if (e m other) in
        omega arith

pub sum_flip : (m n : ℕ) (f g : ℕ → ℕ) → n < m → ((k : ℕ) → (k ≡ n → ⊥) → f k ≡ g k) → sum_below m f + g n ≡ sum_below m g + f n
sum_flip zero n f g l e = absurd (omega arith)
sum_flip (suc m) n f g l e = go (cases_eq m n) (λ k. sum_flip m n f g k e)
  where
    go : (m ≡ n) ⊎ (m ≡ n → ⊥) → (n < m → sum_below m f + g n ≡ sum_below m g + f n) → (f m + sum_below m f) + g n ≡ (g m + sum_below m g) + f n
    go (inl same) rec =
        let r = sum_same m f g (λ k j. e k (λ z. omega (arith, j, z))) in
        let x = ap f same in
        let y = ap g same in
        omega arith
    go (inr other) rec =
        let r = rec (omega arith) in
        let x = e m other in
        omega arith

-- a further bound, where the test holds nowhere
pub count_to : (m n : ℕ) (p : ℕ → Bool) → m ≤ n → ((k : ℕ) → m ≤ k → p k ≡ false) → count_below n p ≡ count_below m p
count_to m zero p l f = let e : m ≡ 0 = omega arith in ap (λ k. count_below k p) (sym e)
count_to m (suc n) p l f = go (cases_lt n m) (λ k. count_to m n p k f)
  where
    go : (n < m) ⊎ (m ≤ n) → (m ≤ n → count_below n p ≡ count_below m p) → (if p n then suc (count_below n p) else count_below n p) ≡ count_below m p
    go (inl below) rec = let e : suc n ≡ m = omega arith in ap (λ k. count_below k p) e
    go (inr above) rec = ap (λ b. if b then suc (count_below n p) else count_below n p) (f n above) ∙ rec above

pub sum_to : (m n : ℕ) (f : ℕ → ℕ) → m ≤ n → ((k : ℕ) → m ≤ k → f k ≡ 0) → sum_below n f ≡ sum_below m f
sum_to m zero f l z = let e : m ≡ 0 = omega arith in ap (λ k. sum_below k f) (sym e)
sum_to m (suc n) f l z = go (cases_lt n m) (λ k. sum_to m n f k z)
  where
    go : (n < m) ⊎ (m ≤ n) → (m ≤ n → sum_below n f ≡ sum_below m f) → f n + sum_below n f ≡ sum_below m f
    go (inl below) rec = let e : suc n ≡ m = omega arith in ap (λ k. sum_below k f) e
    go (inr above) rec = let a = z n above in let b = rec above in omega arith

pub count_none : (n : ℕ) (p : ℕ → Bool) → ((k : ℕ) → p k ≡ false) → count_below n p ≡ 0
count_none zero p f = refl
count_none (suc n) p f = ap (λ b. if b then suc (count_below n p) else count_below n p) (f n) ∙ count_none n p f

pub count_all : (n : ℕ) (p : ℕ → Bool) → ((k : ℕ) → k < n → p k ≡ true) → count_below n p ≡ n
count_all zero p f = refl
count_all (suc n) p f =
    ap (λ b. if b then suc (count_below n p) else count_below n p) (f n (omega arith)) ∙ ap suc (count_all n p (λ k l. f k (omega (arith, l))))
