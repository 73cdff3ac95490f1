-- Tests, and first parts of lists.
use Rattle.std.proofs.Common.{◌≡◌, ℕ, zero, suc, ◌≤◌, Bool, true, false, List, [], ◌∷◌, ◌++◌, length, take, drop, Option, Some, None, refl, sym, ap, ◌∙◌, arith, append_assoc, take-append-drop, if◌then◌else◌}
use Rattle.std.proofs.lemmas.Bool.{eq-eqb}
use Rattle.hd_facts.specs.Prefixes.{IsPrefix}
use Rattle.hd_delivery.specs.Histories.{is_this}

-- ---- tests

-- a test, with what it says
pub both : {A : Type 0} (P : A → Type 0) (b : Bool) (x y : A) → (b ≡ true → P x) → (b ≡ false → P y) → P (if b then x else y)
both P true x y f g = f refl
both P false x y f g = g refl

pub is_this-same : (l : ℕ) (o : Option ℕ) → o ≡ Some l → is_this l o ≡ true
is_this-same l None e = absurd (cc)
is_this-same l (Some k) e = eq-eqb l k (let f : k ≡ l = cc in sym f)

-- ---- first parts

pub prefix_trans : {A : Type 0} (xs ys zs : List A) → IsPrefix xs ys → IsPrefix ys zs → IsPrefix xs zs
prefix_trans xs ys zs p q = (p.0 ++ q.0, sym (append_assoc xs p.0 q.0) ∙ (ap (λ ws. ws ++ q.0) p.1 ∙ q.1))

pub take_prefix : {A : Type 0} (n : ℕ) (xs : List A) → IsPrefix (take n xs) xs
take_prefix n xs = (drop n xs, take-append-drop n xs)

pub take_few : {A : Type 0} (n : ℕ) (xs : List A) → length (take n xs) ≤ n
take_few zero xs = omega arith
take_few (suc n) [] = omega arith
take_few (suc n) (x ∷ xs) = omega (arith, take_few n xs)

-- what of a first part of a list comes after another first part
after_prefix : (xs rest bytes : List ℕ) → IsPrefix bytes (xs ++ rest) → IsPrefix (drop (length xs) bytes) rest
after_prefix [] rest bytes p = p
after_prefix (x ∷ xs) rest [] p = (rest, refl)
after_prefix (x ∷ xs) rest (b ∷ bytes) p = after_prefix xs rest bytes (p.0, (let e = p.1 in cc))

-- the next bytes of a list, of which these came before
pub next_piece : (n : ℕ) (before bytes all : List ℕ) → IsPrefix before all → IsPrefix bytes all → IsPrefix (before ++ take n (drop (length before) bytes)) all
next_piece n before bytes all p q =
    let r = prefix_trans (take n (drop (length before) bytes)) (drop (length before) bytes) p.0 (take_prefix n (drop (length before) bytes))
    (after_prefix before p.0 bytes (q.0, q.1 ∙ sym p.1)) in
    (r.0, append_assoc before (take n (drop (length before) bytes)) r.0 ∙ (ap (λ xs. before ++ xs) r.1 ∙ p.1))
