-- The numbers that digits say.
use Rattle.std.proofs.Common.{◌≡◌, ◌==◌, ◌↔◌, ◌≤◌, ◌+◌, ◌*◌, ℕ, Bool, true, List, [], ◌∷◌, ◌++◌, length, refl, sym, ap, ap₂, ◌∙◌, arith, IsTrue}
use Rattle.std.specs.List.{list_all}
use Rattle.std.specs.Char.{is_ascii_digit, digit_value}
use Rattle.std.specs.Str.Parse.{digits_value, digits_value_after}
use Rattle.std.proofs.lemmas.Bool.{and_parts, and_from, eqb-true}
use Rattle.std.proofs.lemmas.Bool.Decides.{nat_tests}
use Rattle.std.proofs.lemmas.List.Folds.{list_all-append}

digit : (b : ℕ) → is_ascii_digit b ≡ true → (digit_value b + 48 ≡ b) × (48 ≤ b) × (b ≤ 57)
digit b h = grind (arith, nat_tests)

after-append : (n : ℕ) (xs ys : List ℕ) → digits_value_after 10 n (xs ++ ys) ≡ digits_value_after 10 (digits_value_after 10 n xs) ys
after-append n [] ys = refl
after-append n (x ∷ xs) ys = after-append (n * 10 + digit_value x) xs ys

after-ge : (n : ℕ) (xs : List ℕ) → n ≤ digits_value_after 10 n xs
after-ge n [] = omega arith
after-ge n (x ∷ xs) = let rest = after-ge (n * 10 + digit_value x) xs in omega (arith, rest)

zeros : (xs : List ℕ) → list_all (λ b. b == 48) xs ≡ true → digits_value_after 10 0 xs ≡ 0
zeros [] h = refl
zeros (x ∷ xs) h =
    let parts = and_parts (x == 48) (list_all (λ b. b == 48) xs) h in
    rw (eqb-true x 48 parts.0) (zeros xs parts.1)

zeros-back : (xs : List ℕ) → list_all is_ascii_digit xs ≡ true → digits_value_after 10 0 xs ≡ 0 → list_all (λ b. b == 48) xs ≡ true
zeros-back [] h e = refl
zeros-back (x ∷ xs) h e =
    let parts = and_parts (is_ascii_digit x) (list_all is_ascii_digit xs) h in
    let d = digit x parts.0 in
    let low = after-ge (0 * 10 + digit_value x) xs in
    let is : x ≡ 48 = omega (arith, d, low, e) in
    let none : 0 * 10 + digit_value x ≡ 0 = omega (arith, d, low, e) in
    let rest : digits_value_after 10 0 xs ≡ 0 = ap (λ n. digits_value_after 10 n xs) (sym none) ∙ e in
    and_from (x == 48) (list_all (λ b. b == 48) xs) (rw is refl) (zeros-back xs parts.1 rest)

one_number : (m n : ℕ) (xs ys : List ℕ) → length xs ≡ length ys → list_all is_ascii_digit xs ≡ true → list_all is_ascii_digit ys ≡ true
    → digits_value_after 10 m xs ≡ digits_value_after 10 n ys → (m ≡ n) × (xs ≡ ys)
one_number m n [] [] l h k e = (e, refl)
one_number m n [] (y ∷ ys) l h k e = absurd (omega (arith, l))
one_number m n (x ∷ xs) [] l h k e = absurd (omega (arith, l))
one_number m n (x ∷ xs) (y ∷ ys) l h k e =
    let hs = and_parts (is_ascii_digit x) (list_all is_ascii_digit xs) h in
    let ks = and_parts (is_ascii_digit y) (list_all is_ascii_digit ys) k in
    let dx = digit x hs.0 in
    let dy = digit y ks.0 in
    let rest = one_number (m * 10 + digit_value x) (n * 10 + digit_value y) xs ys (omega (arith, l)) hs.1 ks.1 e in
    let first : x ≡ y = omega (arith, dx, dy, rest.0) in
    (omega (arith, dx, dy, rest.0), ap₂ (λ a b. a ∷ b) first rest.1)

-- as many digits say one number only if they are the same after zeros
pub padded : (short front rest : List ℕ) → length rest ≡ length short → list_all is_ascii_digit short ≡ true → list_all is_ascii_digit (front ++ rest) ≡ true
    → digits_value 10 short ≡ digits_value 10 (front ++ rest) → (rest ≡ short) × (list_all (λ b. b == 48) front ≡ true)
padded short front rest l h k e =
    let ks = and_parts (list_all is_ascii_digit front) (list_all is_ascii_digit rest) (sym (list_all-append is_ascii_digit front rest) ∙ k) in
    let same = one_number 0 (digits_value_after 10 0 front) short rest (sym l) h ks.1 (e ∙ after-append 0 front rest) in
    (sym same.1, zeros-back front ks.0 (sym same.0))

pub padded-back : (short front rest : List ℕ) → rest ≡ short → list_all (λ b. b == 48) front ≡ true → digits_value 10 short ≡ digits_value 10 (front ++ rest)
padded-back short front rest e z = rw (after-append 0 front rest, zeros front z, e) refl

-- one test for both
pub padded_iff : (short long front rest : List ℕ) (b : Bool) → front ++ rest ≡ long → length rest ≡ length short → list_all is_ascii_digit short ≡ true → list_all is_ascii_digit long ≡ true
    → rest ≡ short → b ≡ list_all (λ c. c == 48) front → IsTrue b ↔ (digits_value 10 short ≡ digits_value 10 long)
padded_iff short long front rest b w l h k same z = (
  λ t. padded-back short front rest same (sym z ∙ t) ∙ ap (digits_value 10) w,
  λ e. z ∙ (padded short front rest l h (ap (list_all is_ascii_digit) w ∙ k) (e ∙ ap (digits_value 10) (sym w))).1,
)

pub padded_not : (short long front rest : List ℕ) → front ++ rest ≡ long → length rest ≡ length short → list_all is_ascii_digit short ≡ true → list_all is_ascii_digit long ≡ true
    → digits_value 10 short ≡ digits_value 10 long → rest ≡ short
padded_not short long front rest w l h k e =
    (padded short front rest l h (ap (list_all is_ascii_digit) w ∙ k) (e ∙ ap (digits_value 10) (sym w))).0
