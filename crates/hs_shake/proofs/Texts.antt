-- What is written: that it is read again, plain and short.
use Rattle.std.proofs.Common.{◌≡◌, ◌≢◌, ◌≤◌, ◌+◌, ◌/◌, ◌%◌, ℕ, zero, suc, pos, Bool, true, false, cond, nat_eq, List, [], ◌∷◌, ◌++◌, length, codes, refl, subst, arith, inl, length-append}
use Rattle.std.specs.Prelude.{nat_lt, ◌==◌, decimal}
use Rattle.std.specs.List.{AllByRecursion}
use Rattle.std.specs.Fmt.{digits, digits_onto, digit_glyph}
use Rattle.std.specs.Str.{is_utf8, chars}
use Rattle.std.proofs.lemmas.Bool.{cond_both}
use Rattle.std.proofs.lemmas.Fmt.{length-decimal-le}
use Rattle.std.proofs.lemmas.List.Elements.{All-from_recursion}
use Rattle.serde_json.proofs.OnLiterals.{serde_json_on_literals}
use Rattle.hv_value.specs.Tree.{Pairs, no_pairs, pair, text, int}
use Rattle.hv_json.specs.Reading.{reading}
use Rattle.hm_message.specs.declared.message.Codec.{Codec}
use Rattle.hm_message.specs.declared.message.Codec.TheVariants.{Json, Pack}
use Rattle.hs_shake.specs.Objects.{IsObjectOf}
use Rattle.hs_shake.specs.Requests.{IsVersion, protocol_name, Asks, request_frame}
use Rattle.hs_shake.specs.Responses.{Accepts, WhyNot, IsAnswered, response_frame, refusal_text, refusal_frame}
use Rattle.hs_shake.specs.Laws.{TextsArePlain, TextsAreShort, most_handshake}
use Rattle.hs_shake.specs.declared.shake.ShakeError.{ShakeError}
use Rattle.hs_shake.specs.declared.shake.ShakeError.TheVariants.{NotJson, Missing, Wrong, Unspoken, Version, Refused, NoMemory}

-- ---- read again

abbrev asking : Codec → ℕ → Pairs
asking codec n = pair (codes "protocol") (text (protocol_name codec)) (pair (codes "version") (int (pos n)) no_pairs)

object_asking : (codec : Codec) (n : ℕ) → IsVersion n → IsObjectOf (request_frame codec n) (asking codec n)
unfolding serde_json_on_literals is_utf8 chars digits reading
object_asking Json (suc zero) v = refl
object_asking Json (suc (suc zero)) v = refl
object_asking Json (suc (suc (suc zero))) v = refl
object_asking Pack (suc zero) v = refl
object_asking Pack (suc (suc zero)) v = refl
object_asking Pack (suc (suc (suc zero))) v = refl
object_asking codec zero v = absurd (let h : ⊥ = omega (arith, v.0) in h)
object_asking codec (suc (suc (suc (suc n)))) v = absurd (let h : ⊥ = omega (arith, v.1) in h)

pub request_is_read : (codec : Codec) (n : ℕ) → IsVersion n → Asks (request_frame codec n) codec n
request_is_read Json n v = (asking Json n, (object_asking Json n v, refl, refl, v))
request_is_read Pack n v = (asking Pack n, (object_asking Pack n v, refl, refl, v))

pub response_accepts : Accepts response_frame
unfolding serde_json_on_literals is_utf8 chars digits reading
response_accepts = (no_pairs, (refl, inl refl))

abbrev telling : ShakeError → Pairs
telling e = pair (codes "error") (text (refusal_text e)) no_pairs

object_telling : (e : ShakeError) → IsObjectOf (refusal_frame e) (telling e)
unfolding serde_json_on_literals is_utf8 chars digits reading
object_telling NotJson = refl
object_telling (Missing f) = refl
object_telling (Wrong f) = refl
object_telling Unspoken = refl
object_telling (Version z) = refl
object_telling (Refused s) = refl
object_telling NoMemory = refl

pub refusal_is_read : (e : ShakeError) → IsAnswered e → WhyNot (refusal_frame e) (Refused (refusal_text e))
refusal_is_read e h = (telling e, (object_telling e, refl))

-- ---- plain and short

no_mark : List ℕ → Bool
no_mark [] = true
no_mark (b ∷ bytes) = cond (nat_eq b 30) false (no_mark bytes)

abbrev Plain : List ℕ → Type 0
Plain = AllByRecursion (λ b. b ≢ 30)

neither : (t r : Bool) → cond t false r ≡ true → (t ≡ false) × (r ≡ true)
neither true r e = cc
neither false r e = (refl, e)

no_mark_by : (bytes : List ℕ) → no_mark bytes ≡ true → Plain bytes
unfolding no_mark
no_mark_by [] e = tt
no_mark_by (b ∷ bytes) e =
    let parts = neither (nat_eq b 30) (no_mark bytes) e in
    (λ same. (let h : nat_eq 30 30 ≡ false = subst (λ (x : ℕ). nat_eq x 30 ≡ false) same parts.0 in cc), no_mark_by bytes parts.1)

joined : (xs ys : List ℕ) → Plain xs → Plain ys → Plain (xs ++ ys)
joined [] ys h k = k
joined (x ∷ xs) ys h k = (h.0, joined xs ys h.1 k)

glyph : (d : ℕ) → digit_glyph false d ≢ 30
glyph d = cond_both (nat_lt d 10) (48 + d) (87 + d) (λ x. x ≢ 30) (λ e same. omega (arith, same)) (λ e same. omega (arith, same))

onto : (k n : ℕ) (acc : List ℕ) → Plain acc → Plain (digits_onto k 10 false n acc)
onto zero n acc h = h
onto (suc k) n acc h =
    let more : Plain (digit_glyph false (n % 10) ∷ acc) = (glyph (n % 10), h) in
    cond_both (n / 10 == 0) (digit_glyph false (n % 10) ∷ acc) (digits_onto k 10 false (n / 10) (digit_glyph false (n % 10) ∷ acc)) Plain
    (λ e. more) (λ e. onto k (n / 10) (digit_glyph false (n % 10) ∷ acc) more)

plain_decimal : (n : ℕ) → Plain (decimal n)
unfolding digits
plain_decimal n = onto 64 n [] tt

plain_name : (codec : Codec) → Plain (protocol_name codec)
unfolding no_mark
plain_name Json = no_mark_by (protocol_name Json) refl
plain_name Pack = no_mark_by (protocol_name Pack) refl

plain_request : (codec : Codec) (n : ℕ) → Plain (request_frame codec n)
unfolding no_mark
plain_request codec n =
    joined (codes "{\"protocol\":\"") _ (no_mark_by (codes "{\"protocol\":\"") refl)
    (joined (protocol_name codec) _ (plain_name codec)
    (joined (codes "\",\"version\":") _ (no_mark_by (codes "\",\"version\":") refl)
    (joined (decimal n) (codes "}") (plain_decimal n) (no_mark_by (codes "}") refl))))

plain_refusal : (e : ShakeError) → Plain (refusal_frame e)
unfolding no_mark
plain_refusal NotJson = no_mark_by (refusal_frame NotJson) refl
plain_refusal (Missing f) = no_mark_by (refusal_frame (Missing f)) refl
plain_refusal (Wrong f) = no_mark_by (refusal_frame (Wrong f)) refl
plain_refusal Unspoken = no_mark_by (refusal_frame Unspoken) refl
plain_refusal (Version z) = no_mark_by (refusal_frame (Version z)) refl
plain_refusal (Refused s) = no_mark_by (refusal_frame (Refused s)) refl
plain_refusal NoMemory = no_mark_by (refusal_frame NoMemory) refl

pub plain : TextsArePlain
unfolding no_mark
plain = record {
  request = λ codec n. All-from_recursion (λ b. b ≢ 30) (request_frame codec n) (plain_request codec n);
  response = All-from_recursion (λ b. b ≢ 30) response_frame (no_mark_by response_frame refl);
  refusal = λ e. All-from_recursion (λ b. b ≢ 30) (refusal_frame e) (plain_refusal e);
}

short_request : (codec : Codec) (n : ℕ) → length (decimal n) ≤ 3 → length (request_frame codec n) ≤ most_handshake
short_request Json n h =
    let size = length-append (decimal n) (codes "}") in
    omega (arith, h, size)
short_request Pack n h =
    let size = length-append (decimal n) (codes "}") in
    omega (arith, h, size)

short_refusal : (e : ShakeError) → length (refusal_frame e) ≤ most_handshake
short_refusal NotJson = omega arith
short_refusal (Missing f) = omega arith
short_refusal (Wrong f) = omega arith
short_refusal Unspoken = omega arith
short_refusal (Version z) = omega arith
short_refusal (Refused s) = omega arith
short_refusal NoMemory = omega arith

pub short : TextsAreShort
short = record {
  request = λ codec n h. short_request codec n (length-decimal-le 3 n (omega arith) (omega (arith, h)) (omega (arith, h)));
  response = omega arith;
  refusal = short_refusal;
}
