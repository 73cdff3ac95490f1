-- Lists, folds and tests.
use Rattle.std.proofs.Common.{◌≡◌, ℕ, zero, suc, ◌<◌, ◌≤◌, List, [], ◌∷◌, ◌++◌, length, take, drop, Some, None, refl, sym, ap, ◌∙◌, subst, arith, append_assoc, length-append}
use Rattle.std.specs.Prelude.{slice_get, fold}
use Rattle.hd_facts.specs.Prefixes.{IsPrefix}

pub fold-append : {A B : Type 0} (f : B → A → B) (n : B) (xs ys : List A) → fold f n (xs ++ ys) ≡ fold f (fold f n xs) ys
fold-append f n [] ys = refl
fold-append f n (x ∷ xs) ys = fold-append f (f n x) xs ys

pub take_next : {A : Type 0} (xs : List A) (k : ℕ) (x : A) → slice_get xs k ≡ Some x → take (suc k) xs ≡ take k xs ++ x ∷ []
take_next [] k x e = absurd (cc)
take_next (y ∷ xs) zero x e = cc
take_next (y ∷ xs) (suc k) x e = ap (λ zs. y ∷ zs) (take_next xs k x e)

pub take_whole : {A : Type 0} (xs : List A) → take (length xs) xs ≡ xs
take_whole [] = refl
take_whole (x ∷ xs) = ap (λ zs. x ∷ zs) (take_whole xs)

pub take_front : {A : Type 0} (xs ys : List A) (k : ℕ) → k ≤ length xs → take k (xs ++ ys) ≡ take k xs
take_front xs ys zero h = refl
take_front [] ys (suc k) h = absurd (omega arith)
take_front (x ∷ xs) ys (suc k) h = ap (λ zs. x ∷ zs) (take_front xs ys k (omega arith))

pub take_split : {A : Type 0} (xs : List A) (k : ℕ) → take k xs ++ drop k xs ≡ xs
take_split xs zero = refl
take_split [] (suc k) = refl
take_split (x ∷ xs) (suc k) = ap (λ zs. x ∷ zs) (take_split xs k)

pub drop_all : {A : Type 0} (xs : List A) (k : ℕ) → length xs ≤ k → drop k xs ≡ []
drop_all [] zero h = refl
drop_all (x ∷ xs) zero h = absurd (omega arith)
drop_all [] (suc k) h = refl
drop_all (x ∷ xs) (suc k) h = drop_all xs k (omega arith)

pub get_front : {A : Type 0} (xs ys : List A) (k : ℕ) (x : A) → slice_get xs k ≡ Some x → slice_get (xs ++ ys) k ≡ Some x
get_front [] ys k x e = absurd (cc)
get_front (y ∷ xs) ys zero x e = e
get_front (y ∷ xs) ys (suc k) x e = get_front xs ys k x e

pub get_within : {A : Type 0} (xs : List A) (k : ℕ) (x : A) → slice_get xs k ≡ Some x → k < length xs
get_within [] k x e = absurd (cc)
get_within (y ∷ xs) zero x e = omega arith
get_within (y ∷ xs) (suc k) x e = let h = get_within xs k x e in omega arith

pub get_none : {A : Type 0} (xs : List A) (k : ℕ) → slice_get xs k ≡ None → length xs ≤ k
get_none [] k e = omega arith
get_none (x ∷ xs) zero e = absurd (cc)
get_none (x ∷ xs) (suc k) e = let h = get_none xs k e in omega arith

-- a prefix grows by the next element of the whole
seam : {A : Type 0} (xs rest : List A) (x : A) → slice_get (xs ++ rest) (length xs) ≡ Some x → IsPrefix (xs ++ x ∷ []) (xs ++ rest)
seam [] [] x e = absurd (cc)
seam [] (y ∷ rest) x e = (rest, cc)
seam (z ∷ xs) rest x e = let p = seam xs rest x e in (p.0, ap (λ zs. z ∷ zs) p.1)

pub prefix_next : {A : Type 0} (xs ys : List A) (x : A) → IsPrefix xs ys → slice_get ys (length xs) ≡ Some x → IsPrefix (xs ++ x ∷ []) ys
prefix_next xs ys x p g = subst (λ zs. IsPrefix (xs ++ x ∷ []) zs) p.1 (seam xs p.0 x (rw p.1 g))

pub append_none : {A : Type 0} (xs : List A) → xs ++ [] ≡ xs
append_none [] = refl
append_none (x ∷ xs) = ap (λ zs. x ∷ zs) (append_none xs)

pub prefix_more : {A : Type 0} (xs ys zs : List A) → IsPrefix xs ys → IsPrefix xs (ys ++ zs)
prefix_more xs ys zs p = (p.0 ++ zs, sym (append_assoc xs p.0 zs) ∙ ap (λ ws. ws ++ zs) p.1)

pub prefix_length : {A : Type 0} (xs ys : List A) → IsPrefix xs ys → length xs ≤ length ys
prefix_length xs ys p = let e = sym (length-append xs p.0) ∙ ap length p.1 in omega arith

-- a prefix that is as long is the whole
whole : {A : Type 0} (xs rest : List A) → length rest ≤ 0 → xs ≡ xs ++ rest
whole xs [] l = sym (append_none xs)
whole xs (x ∷ rest) l = absurd (omega arith)

pub prefix_whole : {A : Type 0} (xs ys : List A) → IsPrefix xs ys → length ys ≤ length xs → xs ≡ ys
prefix_whole xs ys p h = let e = sym (length-append xs p.0) ∙ ap length p.1 in whole xs p.0 (omega arith) ∙ p.1
