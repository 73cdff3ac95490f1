-- Lengths, as `http1` sums them up and as they are stated.
use Rattle.std.proofs.Common.{◌≡◌, ◌==◌, ◌&&◌, ◌<◌, ◌≤◌, ◌^◌, ℕ, Bool, true, false, cond, List, [], ◌∷◌, ◌++◌, length, Option, None, Some, refl, sym, ◌∙◌, arith, min, inl, inr}
use Rattle.std.specs.Bool.{then_some}
use Rattle.std.specs.Prelude.{nat_lt, codes, IfSome}
use Rattle.std.specs.List.{list_all}
use Rattle.std.specs.Char.{is_ascii_digit}
use Rattle.std.specs.Str.Parse.{digits_value}
use Rattle.std.proofs.lemmas.Bool.{and_parts, and_from, cases_lt, cond_both}
use Rattle.std.proofs.lemmas.Bool.Decides.{nat_tests}
use Rattle.http1.specs.Fields.{Header, known_fields, content_length, is_named, is_number, is_number_of, values_named}
use Rattle.http1.specs.declared.fields.KnownFields.{KnownFields}
use Rattle.http1.specs.declared.fields.ContentLength.TheVariants as Length
use Rattle.hh_http.specs.Heads.{first_named, agree, repeats, is_digits, number_of, lengths, hosts}

pub known-length : (fields : List Header) (k : KnownFields) → k ≡ known_fields fields → k.content_length ≡ content_length (lengths fields)
unfolding known_fields
known-length fields k e = rw e refl

pub known-hosts : (fields : List Header) (k : KnownFields) → k ≡ known_fields fields → k.hosts ≡ min (hosts fields) 2
unfolding known_fields
known-hosts fields k e = rw e refl

number_parts : (e : List ℕ) → is_number e ≡ true → (is_digits e ≡ true) × (digits_value 10 e < 2 ^ 64)
number_parts e h =
    let a = and_parts (nat_lt 0 (length e)) (list_all is_ascii_digit e && nat_lt (digits_value 10 e) (2 ^ 64)) h in
    let b = and_parts (list_all is_ascii_digit e) (nat_lt (digits_value 10 e) (2 ^ 64)) a.1 in
    (and_from (nat_lt 0 (length e)) (list_all is_ascii_digit e) a.0 b.0, grind (arith, nat_tests))

number_from : (e : List ℕ) → is_digits e ≡ true → digits_value 10 e < 2 ^ 64 → is_number e ≡ true
number_from e h small =
    let a = and_parts (nat_lt 0 (length e)) (list_all is_ascii_digit e) h in
    let lt : nat_lt (digits_value 10 e) (2 ^ 64) ≡ true = grind (arith, nat_tests) in
    and_from (nat_lt 0 (length e)) (list_all is_ascii_digit e && nat_lt (digits_value 10 e) (2 ^ 64)) a.0
    (and_from (list_all is_ascii_digit e) (nat_lt (digits_value 10 e) (2 ^ 64)) a.1 lt)

weaker : (first : List ℕ) (texts : List (List ℕ)) → list_all (is_number_of (digits_value 10 first)) texts ≡ true → list_all (repeats first) texts ≡ true
weaker first [] h = refl
weaker first (e ∷ texts) h =
    let a = and_parts (is_number_of (digits_value 10 first) e) (list_all (is_number_of (digits_value 10 first)) texts) h in
    let b = and_parts (is_number e) (digits_value 10 e == digits_value 10 first) a.0 in
    and_from (repeats first e) (list_all (repeats first) texts)
    (and_from (is_digits e) (digits_value 10 e == digits_value 10 first) (number_parts e b.0).0 b.1) (weaker first texts a.1)

stronger : (first : List ℕ) (texts : List (List ℕ)) → digits_value 10 first < 2 ^ 64 → list_all (repeats first) texts ≡ true → list_all (is_number_of (digits_value 10 first)) texts ≡ true
stronger first [] small h = refl
stronger first (e ∷ texts) small h =
    let a = and_parts (repeats first e) (list_all (repeats first) texts) h in
    let b = and_parts (is_digits e) (digits_value 10 e == digits_value 10 first) a.0 in
    let same : digits_value 10 e ≡ digits_value 10 first = grind (arith, nat_tests) in
    and_from (is_number_of (digits_value 10 first) e) (list_all (is_number_of (digits_value 10 first)) texts)
    (and_from (is_number e) (digits_value 10 e == digits_value 10 first) (number_from e b.0 (omega (arith, same))) b.1) (stronger first texts small a.1)

pub absent : (texts : List (List ℕ)) → content_length texts ≡ Length.Absent → (0 ≡ number_of texts) × (agree texts ≡ true)
absent [] e = (refl, refl)
absent (first ∷ texts) e =
    cond_both (is_number first && list_all (is_number_of (digits_value 10 first)) texts) (Length.Value (digits_value 10 first)) Length.Invalid
    (λ x. x ≡ Length.Absent → (0 ≡ number_of (first ∷ texts)) × (agree (first ∷ texts) ≡ true)) (λ t h. absurd (cc h)) (λ t h. absurd (cc h)) e

pub value : (texts : List (List ℕ)) (n : ℕ) → content_length texts ≡ Length.Value n → (n ≡ number_of texts) × (agree texts ≡ true) × (n < 2 ^ 64)
value [] n e = absurd (cc e)
value (first ∷ texts) n e =
    cond_both (is_number first && list_all (is_number_of (digits_value 10 first)) texts) (Length.Value (digits_value 10 first)) Length.Invalid
    (λ x. x ≡ Length.Value n → (n ≡ number_of (first ∷ texts)) × (agree (first ∷ texts) ≡ true) × (n < 2 ^ 64))
    (λ t h.
    let a = and_parts (is_number first) (list_all (is_number_of (digits_value 10 first)) texts) t in
    let b = number_parts first a.0 in
    let same : n ≡ digits_value 10 first = cc h in
    (same, and_from (is_digits first) (list_all (repeats first) texts) b.0 (weaker first texts a.1), omega (arith, same, b.1)))
    (λ t h. absurd (cc h)) e

pub invalid : (texts : List (List ℕ)) → content_length texts ≡ Length.Invalid → agree texts ≡ true → 2 ^ 64 ≤ number_of texts
invalid [] e h = absurd (cc e)
invalid (first ∷ texts) e h =
    let a = and_parts (is_digits first) (list_all (repeats first) texts) h in
    elim (cases_lt (digits_value 10 first) (2 ^ 64)) [
      | inl small ↦
          let t = and_from (is_number first) (list_all (is_number_of (digits_value 10 first)) texts) (number_from first a.0 small) (stronger first texts small a.1) in
          absurd (cc (e, t))
      | inr great ↦ great
    ]

pub invalid_is : (b : Bool) (n : ℕ) (o : Option ℕ) → o ≡ then_some b 18446744073709551615 → (b ≡ true → 2 ^ 64 ≤ n) → IfSome o (λ m. m ≡ min n 18446744073709551615)
invalid_is true n o e h = let great : 2 ^ 64 ≤ n = h refl in rw e (omega (arith, great))
invalid_is false n o e h = rw e tt

-- ---- the first of the lengths

head_of : List (List ℕ) → Option (List ℕ)
head_of [] = None
head_of (text ∷ texts) = Some text

first_is : (name : List ℕ) (fields : List Header) → first_named name fields ≡ head_of (values_named name fields)
unfolding head_of
first_is name [] = refl
first_is name (field ∷ fields) =
    cond_both (is_named name field) (field.1 ∷ []) [] (λ x. cond (is_named name field) (Some field.1) (first_named name fields) ≡ head_of (x ++ values_named name fields))
    (λ t. rw t refl) (λ t. rw t (first_is name fields))

repeats_itself : (first : List ℕ) → repeats first first ≡ is_digits first
repeats_itself first = grind (arith, nat_tests)

agree_none : (texts : List (List ℕ)) → head_of texts ≡ None → agree texts ≡ true
unfolding head_of
agree_none [] e = refl
agree_none (text ∷ texts) e = absurd (cc e)

agree_first : (texts : List (List ℕ)) (first : List ℕ) → head_of texts ≡ Some first → agree texts ≡ (is_digits first && list_all (repeats first) texts)
unfolding head_of
agree_first [] first e = absurd (cc e)
agree_first (text ∷ texts) first e =
    let same : text ≡ first = cc e in
    rw (same, repeats_itself first) (grind (arith, nat_tests))

pub lengths-none : (fields : List Header) → first_named (codes "content-length") fields ≡ None → agree (lengths fields) ≡ true
lengths-none fields e = agree_none (lengths fields) (sym (first_is (codes "content-length") fields) ∙ e)

pub lengths-first : (fields : List Header) (first : List ℕ) → first_named (codes "content-length") fields ≡ Some first
    → agree (lengths fields) ≡ (is_digits first && list_all (repeats first) (lengths fields))
lengths-first fields first e = agree_first (lengths fields) first (sym (first_is (codes "content-length") fields) ∙ e)
