-- Words are cut at a space in one way, and digits have none.
use Rattle.std.proofs.Common.{◌≡◌, ◌≢◌, ◌<◌, ◌^◌, ℕ, List, [], ◌∷◌, ◌++◌, length, get_or, refl, sym, ap, arith}
use Rattle.std.specs.Fmt.{decimal}
use Rattle.std.specs.Int.{IsInRange}
use Rattle.std.proofs.lemmas.Fmt.{decimal_is_IsNumeral}
use Rattle.std.proofs.lemmas.Str.Parse.{digit_at}
use Rattle.std.proofs.lemmas.List.Elements.{All-head, All-tail, All-from_get_or}
use Rattle.sr_notation.specs.Words.{IsWord}

-- the first byte of a text
abbrev pub first : List ℕ → ℕ
first text = get_or text 0 0

-- a word is cut off at one space alone
pub one_split : (a b x y : List ℕ) → IsWord a → IsWord b → a ++ 32 ∷ x ≡ b ++ 32 ∷ y → (a ≡ b) × (x ≡ y)
one_split [] [] x y p q e = (refl, cc)
one_split [] (c ∷ b) x y p q e = absurd (All-head (λ k. k ≢ 32) c b q (sym (ap first e)))
one_split (c ∷ a) [] x y p q e = absurd (All-head (λ k. k ≢ 32) c a p (ap first e))
one_split (c ∷ a) (d ∷ b) x y p q e =
    let same : c ≡ d = ap first e in
    let rest : a ++ 32 ∷ x ≡ b ++ 32 ∷ y = cc in
    let more = one_split a b x y (All-tail (λ k. k ≢ 32) c a p) (All-tail (λ k. k ≢ 32) d b q) rest in
    (cc (same, more.0), more.1)

-- a word has no space
pub no_space : (a b x : List ℕ) → IsWord a → a ≡ b ++ 32 ∷ x → ⊥
no_space [] [] x p e = absurd (omega (arith, ap length e))
no_space [] (c ∷ b) x p e = absurd (omega (arith, ap length e))
no_space (c ∷ a) [] x p e = All-head (λ k. k ≢ 32) c a p (ap first e)
no_space (c ∷ a) (d ∷ b) x p e = no_space a b x (All-tail (λ k. k ≢ 32) c a p) cc

-- digits are a word
pub decimal_word : (n : ℕ) → n < 2 ^ 64 → IsWord (decimal n)
decimal_word n small = All-from_get_or (λ b. b ≢ 32) (decimal n) 0
    (λ k inside is. (let digit : IsInRange 48 57 (get_or (decimal n) k 0) = digit_at (decimal n) k (decimal_is_IsNumeral n small).0.1 inside in omega (arith, digit.0, is)))
