-- What a version is: digits as `parse` reads them.
use Rattle.std.proofs.Common.{rules, refl, sym, ◌≡◌, ◌<◌, ℕ, Bool, true, false, ◌&&◌, List, [], ◌∷◌, Some, Ok, Err, arith, length}
use Rattle.std.specs.Prelude.{◌+◌, ◌-◌, ◌*◌, ◌^◌, fold, nat_lt}
use Rattle.std.specs.List.{list_all}
use Rattle.std.specs.Str.{IsAscii, IsUtf8}
use Rattle.std.specs.Str.Parse.{ParsesUnsigned}
use Rattle.std.proofs.lemmas.Bool.{and_parts, leb-true, lt-ltb, false_from_ne_true, ltb-true}
use Rattle.std.proofs.lemmas.Str.{IsUtf8-from_ascii}
use Rattle.std.proofs.lemmas.Str.Ascii.{IsAscii-nil, IsAscii-cons}
use Rattle.std.proofs.lemmas.Str.Parse.{IsNumeralModel, numerals_by_fold, parse_digits}
use Rattle.hd_server.specs.Table.{is_digit, is_version, number_in}

-- ---- digits are a text

ascii : (bs : List ℕ) → list_all is_digit bs ≡ true → IsAscii bs
ascii [] p = IsAscii-nil
ascii (b ∷ bs) p =
    let parts = and_parts (is_digit b) (list_all is_digit bs) p in
    let below : b < 128 = omega (arith, leb-true b 57 (and_parts _ _ parts.0).1) in
    IsAscii-cons b bs below (ascii bs parts.1)

pub digits_are_text : (bs : List ℕ) → list_all is_digit bs ≡ true → IsUtf8 bs
digits_are_text bs p = IsUtf8-from_ascii bs (ascii bs p)

-- ---- and a number

abbrev read_on : ℕ → List ℕ → ℕ
read_on n bs = fold (λ n b. n * 10 + (b - 48)) n bs

own : IsNumeralModel (λ ds. list_all is_digit ds ≡ true) (read_on 0)
own = numerals_by_fold _ (search rules) read_on (search rules)

and_true : (b : Bool) → b ≡ (b && true)
and_true true = refl
and_true false = refl

module _ (bs : List ℕ) (p : list_all is_digit bs ≡ true) where
  -- if it fits, it is a version unless it is 0
  pub version_read : (n : ℕ) → ParsesUnsigned {E = ℕ} 64 10 bs (Ok n) → nat_lt 0 n ≡ is_version (Some bs)
  version_read n h =
      let k = parse_digits own {E = ℕ} 64 bs (Ok n) h p in
      rw (lt-ltb 0 (length bs) k.0.0, p, lt-ltb (number_in bs) (2 ^ 64) k.0.1, k.1) (and_true (nat_lt 0 (number_in bs)))

  -- if it doesn't fit, or there is no digit, it is none
  pub version_unread : (e : ℕ) → ParsesUnsigned {E = ℕ} 64 10 bs (Err e) → false ≡ is_version (Some bs)
  version_unread e h =
      let k = parse_digits own {E = ℕ} 64 bs (Err e) h p in
      sym (false_from_ne_true _ (λ t.
      let parts = and_parts _ _ t in
      k (ltb-true 0 (length bs) (and_parts _ _ parts.0).0, ltb-true (number_in bs) (2 ^ 64) (and_parts _ _ parts.1).1)))
