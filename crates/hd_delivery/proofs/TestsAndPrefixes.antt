-- Tests, and first parts of lists.
use Rattle.std.proofs.Common.{◌≡◌, ℕ, Bool, true, false, List, ◌++◌, Option, Some, None, refl, sym, ap, ◌∙◌, append_assoc, if◌then◌else◌}
use Rattle.std.proofs.lemmas.Bool.{eqb-true, eq-eqb}
use Rattle.hd_facts.specs.Prefixes.{IsPrefix}
use Rattle.hd_delivery.specs.Histories.{is_this}

-- ---- tests

-- a test, with what it says
pub both : {A : Type 0} (P : A → Type 0) (b : Bool) (x y : A) → (b ≡ true → P x) → (b ≡ false → P y) → P (if b then x else y)
both P true x y f g = f refl
both P false x y f g = g refl

pub is_this-true : (l : ℕ) (o : Option ℕ) → is_this l o ≡ true → o ≡ Some l
is_this-true l None e = absurd (cc)
is_this-true l (Some k) e = ap Some (sym (eqb-true l k e))

pub is_this-same : (l : ℕ) (o : Option ℕ) → o ≡ Some l → is_this l o ≡ true
is_this-same l None e = absurd (cc)
is_this-same l (Some k) e = eq-eqb l k (let f : k ≡ l = cc in sym f)

-- ---- first parts

pub prefix_trans : {A : Type 0} (xs ys zs : List A) → IsPrefix xs ys → IsPrefix ys zs → IsPrefix xs zs
prefix_trans xs ys zs p q = (p.0 ++ q.0, sym (append_assoc xs p.0 q.0) ∙ (ap (λ ws. ws ++ q.0) p.1 ∙ q.1))
