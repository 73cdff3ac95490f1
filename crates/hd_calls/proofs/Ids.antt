-- The ids of two peers are apart.
use Rattle.std.proofs.Common.{◌≡◌, ℕ, ◌<◌, ◌≤◌, Bool, true, false, List, [], ◌∷◌, ◌++◌, length, refl, sym, ap, ◌∙◌, subst, arith}
use Rattle.std.specs.Prelude.{nat_le, nat_lt, if◌then◌else◌}
use Rattle.std.specs.Fmt.{decimal}
use Rattle.std.specs.Str.Parse.{IsNumeral, digits_value}
use Rattle.std.proofs.lemmas.Bool.{leb-true, leb-false, le-leb, ltb-true}
use Rattle.std.proofs.lemmas.Fmt.{decimal_is_IsNumeral, length-decimal-le}
use Rattle.std.specs.Char.{digit_value}
use Rattle.hd_delivery.specs.declared.vocabulary.Side.{Side}
use Rattle.hd_delivery.specs.declared.vocabulary.Side.TheVariants.{Client, Server}
use Rattle.hd_calls.specs.Numbers.{most_numbers}
use Rattle.hd_calls.specs.Ids.{prefix_of, digits_of, id_at, IdsAreDrawn}
use Rattle.hd_calls.proofs.Lists.{not_true}

not_less : (n k : ℕ) → k ≤ n → nat_lt n k ≡ false
not_less n k l = not_true (nat_lt n k) (λ e. let z = ltb-true n k e in omega arith)

-- a letter past z is no digit
far : (n : ℕ) → 123 ≤ n → digit_value n ≡ 36
far n l =
    rw (not_less n 48 (omega arith)) (rw (not_less n 58 (omega arith)) (rw (not_less n 65 (omega arith)) (rw (not_less n 91 (omega arith)) (rw (not_less n 97 (omega arith)) (rw (not_less n 123 (omega arith)) refl)))))

-- the first of some digits is one
first_digit : (c : ℕ) (cs : List ℕ) → IsNumeral 10 (c ∷ cs) → digit_value c < 10
first_digit c cs p = p.1.0

within : (n : ℕ) → nat_le n most_numbers ≡ true → n ≤ most_numbers
within n e = leb-true n most_numbers e

numeral : (n : ℕ) → nat_le n most_numbers ≡ true → IsNumeral 10 (decimal n) × (digits_value 10 (decimal n) ≡ n)
numeral n e = decimal_is_IsNumeral n (let l = within n e in omega arith)

-- what is past the bound is no decimal
beyond : (m n : ℕ) → nat_le m most_numbers ≡ true → nat_le n most_numbers ≡ false → decimal m ≡ n ∷ [] → ⊥
beyond m n e f g =
    let p : IsNumeral 10 (n ∷ []) = subst (λ xs. IsNumeral 10 xs) g (numeral m e).0 in
    let l = first_digit n [] p in
    let k = leb-false n most_numbers f in
    let d = far n (omega arith) in
    omega arith

digits_apart : (m n : ℕ) → digits_of m ≡ digits_of n → m ≡ n
digits_apart m n = go (nat_le m most_numbers) refl (nat_le n most_numbers) refl
  where
    go : (a : Bool) → nat_le m most_numbers ≡ a → (b : Bool) → nat_le n most_numbers ≡ b → (if a then decimal m else m ∷ []) ≡ (if b then decimal n else n ∷ []) → m ≡ n
    go true e true f g = sym (numeral m e).1 ∙ (ap (digits_value 10) g ∙ (numeral n f).1)
    go true e false f g = absurd (beyond m n e f g)
    go false e true f g = absurd (beyond n m f e (sym g))
    go false e false f g = cc

same_rest : (side : Side) (xs ys : List ℕ) → prefix_of side ++ xs ≡ prefix_of side ++ ys → xs ≡ ys
same_rest Client xs ys e = e
same_rest Server xs ys e = cc

across_sides : (m n : ℕ) → digits_of m ≡ 115 ∷ digits_of n → ⊥
across_sides m n = go (nat_le m most_numbers) refl (nat_le n most_numbers) refl
  where
    go : (a : Bool) → nat_le m most_numbers ≡ a → (b : Bool) → nat_le n most_numbers ≡ b → (if a then decimal m else m ∷ []) ≡ 115 ∷ (if b then decimal n else n ∷ []) → ⊥
    go true e b f g =
        let p : IsNumeral 10 (115 ∷ (if b then decimal n else n ∷ [])) = subst (λ xs. IsNumeral 10 xs) g (numeral m e).0 in
        let l : digit_value 115 < 10 = first_digit 115 (if b then decimal n else n ∷ []) p in
        absurd (let z : 28 < 10 = l in omega arith)
    go false e true f g = let z : [] ≡ decimal n = cc in let p = (numeral n f).0.0 in let l = ap length z in absurd (omega arith)
    go false e false f g = absurd (let z : [] ≡ n ∷ [] = cc in cc)

decimal_there : (n : ℕ) → n ≤ most_numbers → digits_of n ≡ decimal n
decimal_there n l = ap (λ b. if b then decimal n else n ∷ []) (le-leb n most_numbers l)

short_ids : (side : Side) (n : ℕ) → n ≤ most_numbers → length (id_at side n) ≤ 20
short_ids Client n l = let e = ap length (decimal_there n l) in let k = length-decimal-le 19 n (omega arith) (omega arith) (omega arith) in omega arith
short_ids Server n l = let e = ap length (decimal_there n l) in let k = length-decimal-le 19 n (omega arith) (omega arith) (omega arith) in omega arith

pub ids_are_drawn : IdsAreDrawn
ids_are_drawn = record {
  apart = record { own = λ side m n e. digits_apart m n (same_rest side (digits_of m) (digits_of n) e); across = λ m n e. across_sides m n e };
  decimal_up_to = λ side n l. ap (λ xs. prefix_of side ++ xs) (decimal_there n l);
  short = short_ids;
}
