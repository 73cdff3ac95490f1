-- Lists, prefixes and tests.
use Rattle.std.proofs.Common.{◌≡◌, ℕ, zero, suc, ◌<◌, Bool, true, false, List, [], ◌∷◌, ◌++◌, length, Some, refl, sym, ap, ◌∙◌, subst, arith, append_assoc}
use Rattle.std.specs.Prelude.{◌==◌, ◌&&◌, slice_get, if◌then◌else◌}
use Rattle.std.proofs.lemmas.Bool.{and_parts, eqb-true, eq-eqb}
use Rattle.hd_facts.specs.Prefixes.{IsPrefix}
use Rattle.hm_message.specs.Same.{same_text}

-- a test, with what it says
pub both : {A : Type 0} (P : A → Type 0) (b : Bool) (x y : A) → (b ≡ true → P x) → (b ≡ false → P y) → P (if b then x else y)
both P true x y f g = f refl
both P false x y f g = g refl

pub not_true : (b : Bool) → (b ≡ true → ⊥) → b ≡ false
not_true true f = absurd (f refl)
not_true false f = refl

pub append_none : {A : Type 0} (xs : List A) → xs ++ [] ≡ xs
append_none [] = refl
append_none (x ∷ xs) = ap (λ zs. x ∷ zs) (append_none xs)

pub get_front : {A : Type 0} (xs ys : List A) (k : ℕ) (x : A) → slice_get xs k ≡ Some x → slice_get (xs ++ ys) k ≡ Some x
get_front [] ys k x e = absurd (cc)
get_front (y ∷ xs) ys zero x e = e
get_front (y ∷ xs) ys (suc k) x e = get_front xs ys k x e

pub get_within : {A : Type 0} (xs : List A) (k : ℕ) (x : A) → slice_get xs k ≡ Some x → k < length xs
get_within [] k x e = absurd (cc)
get_within (y ∷ xs) zero x e = omega arith
get_within (y ∷ xs) (suc k) x e = let h = get_within xs k x e in omega arith

-- a prefix grows by the next element of the whole
seam : {A : Type 0} (xs rest : List A) (x : A) → slice_get (xs ++ rest) (length xs) ≡ Some x → IsPrefix (xs ++ x ∷ []) (xs ++ rest)
seam [] [] x e = absurd (cc)
seam [] (y ∷ rest) x e = (rest, cc)
seam (z ∷ xs) rest x e = let p = seam xs rest x e in (p.0, ap (λ zs. z ∷ zs) p.1)

pub prefix_next : {A : Type 0} (xs ys : List A) (x : A) → IsPrefix xs ys → slice_get ys (length xs) ≡ Some x → IsPrefix (xs ++ x ∷ []) ys
prefix_next xs ys x p g = subst (λ zs. IsPrefix (xs ++ x ∷ []) zs) p.1 (seam xs p.0 x (rw p.1 g))

pub prefix_more : {A : Type 0} (xs ys zs : List A) → IsPrefix xs ys → IsPrefix xs (ys ++ zs)
prefix_more xs ys zs p = (p.0 ++ zs, sym (append_assoc xs p.0 zs) ∙ ap (λ ws. ws ++ zs) p.1)

pub prefix_self : {A : Type 0} (xs : List A) → IsPrefix xs xs
prefix_self xs = ([], append_none xs)

pub prefix_trans : {A : Type 0} (xs ys zs : List A) → IsPrefix xs ys → IsPrefix ys zs → IsPrefix xs zs
prefix_trans xs ys zs p q = (p.0 ++ q.0, sym (append_assoc xs p.0 q.0) ∙ (ap (λ ws. ws ++ q.0) p.1 ∙ q.1))

pub prefix_none : {A : Type 0} (xs : List A) → IsPrefix xs [] → xs ≡ []
prefix_none [] p = refl
prefix_none (x ∷ xs) p = absurd (let e = p.1 in cc)

pub none_of : {A : Type 0} (xs : List A) → (0 < length xs → ⊥) → xs ≡ []
none_of [] f = refl
none_of (x ∷ xs) f = absurd (f (omega arith))

-- the test whether texts are the same
pub same_refl : (i : List ℕ) → same_text i i ≡ true
same_refl [] = refl
same_refl (x ∷ i) = ap (λ b. b && same_text i i) (eq-eqb x x refl) ∙ same_refl i

pub same-true : (i k : List ℕ) → same_text i k ≡ true → i ≡ k
same-true [] [] e = refl
same-true [] (y ∷ k) e = absurd (let z : false ≡ true = e in cc)
same-true (x ∷ i) [] e = absurd (let z : false ≡ true = e in cc)
same-true (x ∷ i) (y ∷ k) e =
    let q = and_parts (x == y) (same_text i k) e in
    ap (λ z. z ∷ i) (eqb-true x y q.0) ∙ ap (λ z. y ∷ z) (same-true i k q.1)

pub true-same : (i k : List ℕ) → i ≡ k → same_text i k ≡ true
true-same i k e = subst (λ z. same_text i z ≡ true) e (same_refl i)
