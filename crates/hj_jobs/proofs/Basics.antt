-- Lists and tests.
use Rattle.std.proofs.Common.{◌≡◌, ℕ, zero, suc, ◌+◌, ◌<◌, ◌≤◌, Bool, true, false, List, [], ◌∷◌, ◌++◌, length, drop, map, Option, Some, None, refl, sym, ap, ◌∙◌, arith, append_assoc}
use Rattle.std.specs.Prelude.{slice_get, option_map, ◌==◌, ◌&&◌, if◌then◌else◌}
use Rattle.std.proofs.lemmas.Bool.{and_parts, eqb-true, eq-eqb}
use Rattle.hm_message.specs.Same.{same_text}
use Rattle.hd_calls.specs.Peers.{last_of}

pub append_none : {A : Type 0} (xs : List A) → xs ++ [] ≡ xs
append_none [] = refl
append_none (x ∷ xs) = ap (λ zs. x ∷ zs) (append_none xs)

pub drop_more : {A : Type 0} (n : ℕ) (xs : List A) → drop 1 (drop n xs) ≡ drop (n + 1) xs
drop_more zero xs = refl
drop_more {A} (suc n) [] = let e : suc n + 1 ≡ suc (n + 1) = omega arith in ap (λ k. drop {A = A} k []) (sym e)
drop_more (suc n) (x ∷ xs) = let e : suc n + 1 ≡ suc (n + 1) = omega arith in drop_more n xs ∙ ap (λ k. drop k (x ∷ xs)) (sym e)

pub get_within : {A : Type 0} (xs : List A) (k : ℕ) (x : A) → slice_get xs k ≡ Some x → k < length xs
get_within [] k x e = absurd (cc)
get_within (y ∷ xs) zero x e = omega arith
get_within (y ∷ xs) (suc k) x e = let h = get_within xs k x e in omega arith

pub get_front : {A : Type 0} (xs ys : List A) (k : ℕ) → k < length xs → slice_get (xs ++ ys) k ≡ slice_get xs k
get_front [] ys k l = absurd (omega (arith, l))
get_front (y ∷ xs) ys zero l = refl
get_front (y ∷ xs) ys (suc k) l = get_front xs ys k (omega (arith, l))

pub get_last : {A : Type 0} (xs : List A) (x : A) → slice_get (xs ++ x ∷ []) (length xs) ≡ Some x
get_last [] x = refl
get_last (y ∷ xs) x = get_last xs x

pub get_past : {A : Type 0} (xs : List A) (k : ℕ) → length xs ≤ k → slice_get xs k ≡ None
get_past [] k l = refl
get_past (y ∷ xs) zero l = absurd (omega (arith, l))
get_past (y ∷ xs) (suc k) l = get_past xs k (omega (arith, l))

pub last_more : {A : Type 0} (xs : List A) (x : A) → last_of (xs ++ x ∷ []) ≡ Some x
last_more [] x = refl
last_more (y ∷ []) x = refl
last_more (y ∷ z ∷ xs) x = last_more (z ∷ xs) x

pub same_refl : (i : List ℕ) → same_text i i ≡ true
same_refl [] = refl
same_refl (x ∷ i) = ap (λ b. b && same_text i i) (eq-eqb x x refl) ∙ same_refl i

pub same-true : (i k : List ℕ) → same_text i k ≡ true → i ≡ k
same-true [] [] e = refl
same-true [] (y ∷ k) e = absurd (let z : false ≡ true = e in cc)
same-true (x ∷ i) [] e = absurd (let z : false ≡ true = e in cc)
same-true (x ∷ i) (y ∷ k) e =
    let q = and_parts (x == y) (same_text i k) e in
    ap (λ z. z ∷ i) (eqb-true x y q.0) ∙ ap (λ z. y ∷ z) (same-true i k q.1)

pub some_injective : {A : Type 0} (x y : A) → ◌≡◌ {A = Option A} (Some x) (Some y) → x ≡ y
some_injective x y e = cc

pub none_some : {A : Type 0} (x : A) → ◌≡◌ {A = Option A} None (Some x) → ⊥
none_some x e = cc

pub true_false : {A : Type 0} → ◌≡◌ {A = Bool} true false → A
true_false e = absurd (let z : true ≡ false = e in cc)
