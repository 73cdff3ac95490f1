-- No control character stands in the text of a value.
use Rattle.std.proofs.Common.{◌≡◌, ◌≤◌, ◌+◌, ◌/◌, ◌%◌, ℕ, zero, suc, pos, negsuc, Bool, true, false, List, [], ◌∷◌, ◌++◌, cond, arith}
use Rattle.std.specs.Prelude.{nat_lt, ◌==◌}
use Rattle.std.specs.Fmt.{digits, digits_onto, digit_glyph, decimal}
use Rattle.std.specs.Char.{digit_char}
use Rattle.std.specs.List.{AllByRecursion}
use Rattle.std.proofs.lemmas.Bool.{cond_both, ltb-false}
use Rattle.std.proofs.lemmas.List.Elements.{All-from_recursion}
use Rattle.json.specs.Print.{escape_byte, escape_letter, escape, quoted}
use Rattle.serde_json.specs.Data as json
use Rattle.serde_json.specs.Data.{Num, Data, Items, Members}
use Rattle.serde_json.specs.Written.{number_text, comma_if, compact_text, items_text, members_text}
use Rattle.hv_json.specs.Laws.{TextHasNoControl}
use Rattle.hv_json.specs.Writing.{json_text, json_of}

abbrev Plain : List ℕ → Type 0
Plain = AllByRecursion (λ b. 32 ≤ b)

joined : (xs ys : List ℕ) → Plain xs → Plain ys → Plain (xs ++ ys)
joined [] ys h k = k
joined (x ∷ xs) ys h k = (h.0, joined xs ys h.1 k)

-- ---- numbers

glyph : (d : ℕ) → 32 ≤ digit_glyph false d
glyph d = cond_both (nat_lt d 10) (48 + d) (87 + d) (λ x. 32 ≤ x) (λ e. omega arith) (λ e. omega arith)

onto : (k n : ℕ) (acc : List ℕ) → Plain acc → Plain (digits_onto k 10 false n acc)
onto zero n acc h = h
onto (suc k) n acc h =
    let more : Plain (digit_glyph false (n % 10) ∷ acc) = (glyph (n % 10), h) in
    cond_both (n / 10 == 0) (digit_glyph false (n % 10) ∷ acc) (digits_onto k 10 false (n / 10) (digit_glyph false (n % 10) ∷ acc)) Plain
    (λ e. more) (λ e. onto k (n / 10) (digit_glyph false (n % 10) ∷ acc) more)

plain_decimal : (n : ℕ) → Plain (decimal n)
unfolding digits
plain_decimal n = onto 64 n [] tt

plain_number : (x : Num) → Plain (number_text x)
plain_number (json.unsigned n) = plain_decimal n
plain_number (json.negative (pos n)) = plain_decimal n
plain_number (json.negative (negsuc n)) = (omega arith, plain_decimal (suc n))
plain_number (json.float x) = tt

-- ---- strings

plain_digit : (d : ℕ) → 32 ≤ digit_char d
plain_digit d = cond_both (nat_lt d 10) (48 + d) (87 + d) (λ x. 32 ≤ x) (λ e. omega arith) (λ e. omega arith)

-- the letter of a short escape, where there is one, is that of a mark or a letter
plain_letter : (x : ℕ) → nat_lt 0 (escape_letter x) ≡ true → 32 ≤ escape_letter x
plain_letter x h = grind arith

plain_escape : (x : ℕ) → Plain (escape_byte x)
unfolding escape_byte
plain_escape x =
    cond_both (nat_lt 0 (escape_letter x)) (92 ∷ escape_letter x ∷ [])
    (cond (nat_lt x 32) (92 ∷ 117 ∷ 48 ∷ 48 ∷ digit_char (x / 16) ∷ digit_char (x % 16) ∷ []) (x ∷ [])) Plain
    (λ e. (omega arith, (plain_letter x e, tt)))
    (λ _. cond_both (nat_lt x 32) (92 ∷ 117 ∷ 48 ∷ 48 ∷ digit_char (x / 16) ∷ digit_char (x % 16) ∷ []) (x ∷ []) Plain
    (λ _. (omega arith, (omega arith, (omega arith, (omega arith, (plain_digit (x / 16), (plain_digit (x % 16), tt)))))))
    (λ e. (ltb-false x 32 e, tt)))

plain_escapes : (s : List ℕ) → Plain (escape s)
plain_escapes [] = tt
plain_escapes (x ∷ xs) = joined (escape_byte x) (escape xs) (plain_escape x) (plain_escapes xs)

plain_quoted : (s : List ℕ) → Plain (quoted s)
plain_quoted s = (omega arith, joined (escape s) (34 ∷ []) (plain_escapes s) (omega arith, tt))

-- ---- values

plain_comma : (later : Bool) → Plain (comma_if later)
plain_comma true = (omega arith, tt)
plain_comma false = tt

plain_word : (b : Bool) → Plain (compact_text (json.boolean b))
plain_word true = (omega arith, (omega arith, (omega arith, (omega arith, tt))))
plain_word false = (omega arith, (omega arith, (omega arith, (omega arith, (omega arith, tt)))))

mutual
  plain_data : (d : Data) → Plain (compact_text d)
  plain_data json.null = (omega arith, (omega arith, (omega arith, (omega arith, tt))))
  plain_data (json.boolean b) = plain_word b
  plain_data (json.number x) = plain_number x
  plain_data (json.string s) = plain_quoted s
  plain_data (json.array ds) = (omega arith, plain_items false ds)
  plain_data (json.object ms) = (omega arith, plain_members false ms)

  plain_items : (later : Bool) (ds : Items) → Plain (items_text later ds)
  plain_items later json.no_items = (omega arith, tt)
  plain_items later (json.item d ds) =
      joined (comma_if later) (compact_text d ++ items_text true ds) (plain_comma later)
      (joined (compact_text d) (items_text true ds) (plain_data d) (plain_items true ds))

  plain_members : (later : Bool) (ms : Members) → Plain (members_text later ms)
  plain_members later json.no_members = (omega arith, tt)
  plain_members later (json.member k d ms) =
      joined (comma_if later) (quoted k ++ 58 ∷ (compact_text d ++ members_text true ms)) (plain_comma later)
      (joined (quoted k) (58 ∷ (compact_text d ++ members_text true ms)) (plain_quoted k)
      (omega arith, joined (compact_text d) (members_text true ms) (plain_data d) (plain_members true ms)))

pub no_control : TextHasNoControl
unfolding json_text
no_control t = All-from_recursion (λ b. 32 ≤ b) (compact_text (json_of t)) (plain_data (json_of t))
