-- The least key of a map.
use Rattle.std.proofs.Common.{◌≡◌, ℕ, ◌<◌, ◌≤◌, ◌⊎◌, inl, inr, Bool, true, false, List, [], ◌∷◌, Option, Some, None, refl, sym, ap, ◌∙◌, arith}
use Rattle.std.specs.Prelude.{min, nat_eq, is_some, if◌then◌else◌}
use Rattle.std.specs.Map.{lookup, keys_of}
use Rattle.std.proofs.lemmas.Bool.{cases_lt, eq-eqb, ne_eqb}
use Rattle.hi_calls.specs.Maps.{least_with}

-- one number more
pub least_step : (least : Option ℕ) (x r : ℕ) (xs : List ℕ) → Some r ≡ least_with least (x ∷ []) → least_with least (x ∷ xs) ≡ least_with (Some r) xs
least_step None x r xs e = let z : r ≡ x = cc in ap (λ k. least_with (Some k) xs) (sym z)
least_step (Some k) x r xs e = let z : r ≡ min k x = cc in ap (λ k. least_with (Some k) xs) (sym z)

-- it is the first number or a key, and no key is less
pub record IsLeast (es : List (ℕ × Bool)) (first n : ℕ) : Type 0 where
  pub at_most : n ≤ first
  pub there : (n ≡ first) ⊎ (is_some (lookup (nat_eq n) es) ≡ true)
  pub none_less : (k : ℕ) → k < n → lookup (nat_eq k) es ≡ None

least_from : (es : List (ℕ × Bool)) (first n : ℕ) → least_with (Some first) (keys_of es) ≡ Some n → IsLeast es first n
least_from [] first n e = let z : n ≡ first = cc in record { at_most = omega arith; there = inl z; none_less = λ k l. refl }
least_from (x ∷ es) first n e = go (least_from es (min first x.0) n e)
  where
    kept : (b : Bool) → is_some (lookup (nat_eq n) es) ≡ true → is_some (if b then Some x.1 else lookup (nat_eq n) es) ≡ true
    kept true f = refl
    kept false f = f

    there : (n ≡ min first x.0) ⊎ (is_some (lookup (nat_eq n) es) ≡ true) → (n ≡ first) ⊎ (is_some (if nat_eq n x.0 then Some x.1 else lookup (nat_eq n) es) ≡ true)
    there (inr f) = inr (kept (nat_eq n x.0) f)
    there (inl z) = which (cases_lt x.0 first)
      where
        which : (x.0 < first) ⊎ (first ≤ x.0) → (n ≡ first) ⊎ (is_some (if nat_eq n x.0 then Some x.1 else lookup (nat_eq n) es) ≡ true)
        which (inl l) = inr (ap (λ b. is_some (if b then Some x.1 else lookup (nat_eq n) es)) (eq-eqb n x.0 (omega arith)))
        which (inr l) = inl (omega arith)

    go : IsLeast es (min first x.0) n → IsLeast (x ∷ es) first n
    go s = record {
      at_most = let a = s.at_most in omega arith;
      there = there s.there;
      none_less = λ k l.
          let a = s.at_most in
          ap (λ b. if b then Some x.1 else lookup (nat_eq k) es) (ne_eqb k x.0 (λ z. omega (arith, a, l, z))) ∙ s.none_less k l;
    }

some_least : (es : List (ℕ × Bool)) (first : ℕ) → least_with (Some first) (keys_of es) ≡ None → ⊥
some_least [] first e = let z : ◌≡◌ {A = Option ℕ} (Some first) None = e in cc
some_least (x ∷ es) first e = some_least es (min first x.0) e

pub none_least : (es : List (ℕ × Bool)) → None ≡ least_with None (keys_of es) → (k : ℕ) → lookup (nat_eq k) es ≡ None
none_least [] e k = refl
none_least (x ∷ es) e k = absurd (some_least es x.0 (sym e))

pub least_there : (es : List (ℕ × Bool)) (n : ℕ) → Some n ≡ least_with None (keys_of es) → is_some (lookup (nat_eq n) es) ≡ true
least_there [] n e = absurd (let z : ◌≡◌ {A = Option ℕ} (Some n) None = e in cc)
least_there (x ∷ es) n e = go (least_from es x.0 n (sym e)).there
  where
    go : (n ≡ x.0) ⊎ (is_some (lookup (nat_eq n) es) ≡ true) → is_some (if nat_eq n x.0 then Some x.1 else lookup (nat_eq n) es) ≡ true
    go (inl z) = ap (λ b. is_some (if b then Some x.1 else lookup (nat_eq n) es)) (eq-eqb n x.0 z)
    go (inr f) = kept (nat_eq n x.0) f
      where
        kept : (b : Bool) → is_some (lookup (nat_eq n) es) ≡ true → is_some (if b then Some x.1 else lookup (nat_eq n) es) ≡ true
        kept true f = refl
        kept false f = f

pub none_less : (es : List (ℕ × Bool)) (n : ℕ) → Some n ≡ least_with None (keys_of es) → (k : ℕ) → k < n → lookup (nat_eq k) es ≡ None
none_less [] n e k l = refl
none_less (x ∷ es) n e k l =
    let s = least_from es x.0 n (sym e) in
    let a = s.at_most in
    ap (λ b. if b then Some x.1 else lookup (nat_eq k) es) (ne_eqb k x.0 (λ z. omega (arith, a, l, z))) ∙ s.none_less k l
