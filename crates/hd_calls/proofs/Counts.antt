-- How many numbers below a bound pass a test.
use Rattle.std.proofs.Common.{◌≡◌, ℕ, zero, suc, ◌<◌, ◌≤◌, Bool, true, false, refl, sym, ap, ◌∙◌, subst, arith}
use Rattle.std.specs.Prelude.{◌+◌, ◌*◌, ◌==◌, ◌||◌, if◌then◌else◌}
use Rattle.std.proofs.lemmas.Bool.{eqb-true}
use Rattle.hd_calls.specs.Rules.{any_below, count_below, sum_below}
use Rattle.hd_calls.proofs.Lists.{both, not_true}

-- if all do
pub count_all : (n : ℕ) (p : ℕ → Bool) → ((j : ℕ) → j < n → p j ≡ true) → count_below n p ≡ n
count_all zero p f = refl
count_all (suc n) p f = ap (λ b. if b then suc (count_below n p) else count_below n p) (f n (omega arith)) ∙ ap suc (count_all n p (λ j l. f j (omega (arith, l))))

-- if all but 0 do
pub count_but_first : (n : ℕ) (p : ℕ → Bool) → p 0 ≡ false → ((j : ℕ) → 0 < j → j ≤ n → p j ≡ true) → count_below (suc n) p ≡ n
count_but_first zero p e f = ap (λ b. if b then 1 else 0) e
count_but_first (suc n) p e f = ap (λ b. if b then suc (count_below (suc n) p) else count_below (suc n) p) (f (suc n) (omega arith) (omega arith)) ∙ ap suc (count_but_first n p e (λ j l m. f j l (omega (arith, m))))

-- a test that holds where another does holds as often at least
pub count_more : (n : ℕ) (p q : ℕ → Bool) → ((j : ℕ) → j < n → p j ≡ true → q j ≡ true) → count_below n p ≤ count_below n q
count_more zero p q f = omega arith
count_more (suc n) p q f = go (p n) refl (q n) refl (count_more n p q (λ j l. f j (omega (arith, l))))
  where
    go : (a : Bool) → p n ≡ a → (b : Bool) → q n ≡ b → count_below n p ≤ count_below n q → (if a then suc (count_below n p) else count_below n p) ≤ (if b then suc (count_below n q) else count_below n q)
    go true e true g l = omega (arith, l)
    go true e false g l = absurd (let z : false ≡ true = sym g ∙ f n (omega arith) e in cc)
    go false e true g l = omega (arith, l)
    go false e false g l = l

pub count_at_most : (n : ℕ) (p : ℕ → Bool) → count_below n p ≤ n
count_at_most zero p = omega arith
count_at_most (suc n) p = both (λ k. k ≤ suc n) (p n) (suc (count_below n p)) (count_below n p) (λ e. let l = count_at_most n p in omega arith) (λ e. let l = count_at_most n p in omega arith)

-- one number more
pub count_one : (n : ℕ) (p : ℕ → Bool) → count_below (suc n) p ≤ suc (count_below n p)
count_one n p = both (λ k. k ≤ suc (count_below n p)) (p n) (suc (count_below n p)) (count_below n p) (λ e. omega arith) (λ e. omega arith)

-- where it holds nowhere from a bound on
pub count_cut : (m a : ℕ) (p : ℕ → Bool) → ((j : ℕ) → a ≤ j → p j ≡ false) → count_below (m + a) p ≡ count_below a p
count_cut zero a p f = let e : 0 + a ≡ a = omega arith in ap (λ k. count_below k p) e
count_cut (suc m) a p f = let e : suc m + a ≡ suc (m + a) = omega arith in ap (λ k. count_below k p) e ∙ (ap (λ b. if b then suc (count_below (m + a) p) else count_below (m + a) p) (f (m + a) (omega arith)) ∙ count_cut m a p f)

pub sum_more : (n : ℕ) (f g : ℕ → ℕ) → ((j : ℕ) → j < n → f j ≤ g j) → sum_below n f ≤ sum_below n g
sum_more zero f g e = omega arith
sum_more (suc n) f g e = let x = e n (omega arith) in let y = sum_more n f g (λ j l. e j (omega (arith, l))) in omega arith

-- where one number alone adds more, and so much at most
pub sum_one : (n : ℕ) (f g : ℕ → ℕ) (k x : ℕ) → ((j : ℕ) → (j == k) ≡ false → f j ≤ g j) → f k ≤ g k + x → sum_below n f ≤ sum_below n g + x
sum_one zero f g k x o l = omega arith
sum_one (suc n) f g k x o l = go (n == k) refl (sum_one n f g k x o l)
  where
    go : (b : Bool) → (n == k) ≡ b → sum_below n f ≤ sum_below n g + x → f n + sum_below n f ≤ (g n + sum_below n g) + x
    go true e s =
        let a : f n ≤ g n + x = subst (λ i. f i ≤ g i + x) (sym (eqb-true n k e)) l in
        let r = sum_more n f g (λ j m. o j (not_true (j == k) (λ d. let y = eqb-true j k d in let z = eqb-true n k e in absurd (omega arith)))) in
        omega arith
    go false e s = let a = o n e in omega arith

-- where each adds 96
pub sum_each : (n : ℕ) (f : ℕ → ℕ) → ((j : ℕ) → j < n → f j ≡ 96) → sum_below n f ≡ 96 * n
sum_each zero f e = refl
sum_each (suc n) f e = let x = e n (omega arith) in let y = sum_each n f (λ j l. e j (omega (arith, l))) in omega arith

pub sum_cut : (m a : ℕ) (f : ℕ → ℕ) → ((j : ℕ) → a ≤ j → f j ≡ 0) → sum_below (m + a) f ≡ sum_below a f
sum_cut zero a f e = let z : 0 + a ≡ a = omega arith in ap (λ k. sum_below k f) z
sum_cut (suc m) a f e = let z : suc m + a ≡ suc (m + a) = omega arith in ap (λ k. sum_below k f) z ∙ (let x = e (m + a) (omega arith) in let y = sum_cut m a f e in omega arith)

pub any_none : (n : ℕ) (p : ℕ → Bool) → ((j : ℕ) → p j ≡ false) → any_below n p ≡ false
any_none zero p f = refl
any_none (suc n) p f = ap (λ b. b || any_below n p) (f n) ∙ any_none n p f

pub sum_none : (n : ℕ) (f : ℕ → ℕ) → ((j : ℕ) → f j ≡ 0) → sum_below n f ≡ 0
sum_none zero f e = refl
sum_none (suc n) f e = let x = e n in let y = sum_none n f e in omega arith
