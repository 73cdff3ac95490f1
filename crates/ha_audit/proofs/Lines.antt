-- Heads and steps are one line each: no end of a line stands in their words.
use Rattle.std.proofs.Common.{◌≡◌, ◌≢◌, ◌<◌, ◌≤◌, ◌^◌, ◌/◌, ◌%◌, ◌==◌, ℕ, ◌⊎◌, inl, inr, Bool, true, false, cond, Some, List, [], ◌∷◌, ◌++◌, get_or, refl, sym, ◌∙◌, ap, arith}
use Rattle.std.specs.Prelude.{slice_index, codes}
use Rattle.std.specs.List.{AllByRecursion}
use Rattle.std.specs.Fmt.{decimal}
use Rattle.std.specs.Int.{IsInRange}
use Rattle.std.proofs.lemmas.Bool.{cases_lt, eq-eqb}
use Rattle.std.proofs.lemmas.Fmt.{decimal_is_IsNumeral}
use Rattle.std.proofs.lemmas.List.{get_or_past}
use Rattle.std.proofs.lemmas.List.Elements.{All-append, All-cons, All-nil, All-from_get_or, All-from_recursion, All-tail}
use Rattle.std.proofs.lemmas.Str.Parse.{digit_at}
use Rattle.hex.specs.Hex.{encode_lower, encode_with, hex_digit_value, lower_digits}
use Rattle.hex.proofs.HexLemmas.{IsDigits-lower_digits}
use Rattle.hm_message.specs.declared.message.Codec.{Codec}
use Rattle.hm_message.specs.declared.message.Codec.TheVariants.{Json, Pack}
use Rattle.hm_json.specs.Frame.{frame_of, object_of}
use Rattle.hv_json.specs.Laws.{TextHasNoControl}
use Rattle.hd_delivery.specs.Bounds.{AreLimits}
use Rattle.hd_delivery.specs.Worlds.{Limits}
use Rattle.hd_delivery.specs.declared.vocabulary.Side.{Side}
use Rattle.hd_delivery.specs.declared.vocabulary.Side.TheVariants.{Client, Server}
use Rattle.hd_trace.specs.declared.trace.ToldStep.{ToldStep}
use Rattle.hd_trace.specs.declared.trace.ToldStep.TheVariants.{Attach, Detach, Feed, Lend, Send, Take, Tick, Close}
use Rattle.hd_trace.specs.declared.trace.TraceLine.{TraceLine}
use Rattle.sr_notation.specs.Settings.{buffer_words}
use Rattle.sr_notation.specs.Words.{IsWord, letter}
use Rattle.ha_audit.specs.declared.head.Head.{Head}
use Rattle.ha_audit.specs.Grammar.{HasLine, IsHead, IsOneLine, codec_word, head_words, line_words, step_words, switch_word}
use Rattle.ha_audit.specs.Laws.{LinesAreLines}

-- whether a byte stands nowhere in these, which computes
abbrev lacks : ℕ → List ℕ → Bool
lacks c [] = true
lacks c (b ∷ bytes) = cond (b == c) false (lacks c bytes)

lacking : (c : ℕ) (bytes : List ℕ) → lacks c bytes ≡ true → AllByRecursion (λ b. b ≢ c) bytes
lacking c [] is = tt
lacking c (b ∷ bytes) is = by_test (b == c) refl is (lacking c bytes) where
  by_test : (t : Bool) → (b == c) ≡ t → cond t false (lacks c bytes) ≡ true → (lacks c bytes ≡ true → AllByRecursion (λ b. b ≢ c) bytes)
      → AllByRecursion (λ b. b ≢ c) (b ∷ bytes)
  by_test true e is rest = absurd cc
  by_test false e is rest = (λ same. (let yes : (b == c) ≡ true = eq-eqb b c same in cc), rest is)

word_line : (word : List ℕ) → lacks 10 word ≡ true → IsOneLine word
word_line word is = All-from_recursion (λ b. b ≢ 10) word (lacking 10 word is)

pub is_word : (word : List ℕ) → lacks 32 word ≡ true → IsWord word
is_word word is = All-from_recursion (λ b. b ≢ 32) word (lacking 32 word is)

-- words that compute, and what comes after them
after : (front rest : List ℕ) → lacks 10 front ≡ true → IsOneLine rest → IsOneLine (front ++ rest)
after front rest is line = All-append (λ b. b ≢ 10) front rest (word_line front is) line

decimal_line : (n : ℕ) → n < 2 ^ 64 → IsOneLine (decimal n)
decimal_line n small = All-from_get_or (λ b. b ≢ 10) (decimal n) 0
    (λ k inside is. (let digit : IsInRange 48 57 (get_or (decimal n) k 0) = digit_at (decimal n) k (decimal_is_IsNumeral n small).0.1 inside in omega (arith, digit.0, is)))

-- no digit ends a line
digit_line : (k : ℕ) → slice_index lower_digits k ≢ 10
digit_line k e = by_place (cases_lt k 16) where
  by_place : (k < 16) ⊎ (16 ≤ k) → ⊥
  by_place (inl below) = (let d : hex_digit_value 10 ≡ Some k = sym (ap hex_digit_value e) ∙ IsDigits-lower_digits k below in cc)
  by_place (inr past) = (let d : slice_index lower_digits k ≡ 0 = get_or_past lower_digits k 0 past in omega (arith, d, e))

hex_line : (bytes : List ℕ) → IsOneLine (encode_lower bytes)
unfolding encode_with
hex_line [] = All-nil (λ b. b ≢ 10)
hex_line (b ∷ bytes) =
    All-cons (λ c. c ≢ 10) (slice_index lower_digits (b / 16)) (slice_index lower_digits (b % 16) ∷ encode_lower bytes) (digit_line (b / 16))
    (All-cons (λ c. c ≢ 10) (slice_index lower_digits (b % 16)) (encode_lower bytes) (digit_line (b % 16)) (hex_line bytes))

-- ---- steps

pub step_line : TextHasNoControl → (step : ToldStep) → HasLine step → IsOneLine (step_words step)
step_line law (Attach link) has = after (codes "attach ") (decimal link) refl (decimal_line link has)
step_line law Detach has = word_line (codes "detach") refl
step_line law (Feed []) has = word_line (codes "fed -") refl
step_line law (Feed (b ∷ bytes)) has = after (codes "fed ") (encode_lower (b ∷ bytes)) refl (hex_line (b ∷ bytes))
step_line law (Lend frame) has = after (codes "lent ") (encode_lower frame) refl (hex_line frame)
step_line law (Send m) has = after (codes "sent ") (frame_of m) refl (λ k d inside e. omega (arith, law (object_of m) k d inside, e))
step_line law (Take words) has = after (codes "took ") words refl has.one_line
step_line law (Tick now) has = after (codes "tick ") (decimal now) refl (decimal_line now has)
step_line law Close has = word_line (codes "close") refl

-- ---- heads

codec_line : (codec : Codec) → IsOneLine (codec_word codec)
codec_line Json = word_line (codes "json") refl
codec_line Pack = word_line (codes "pack") refl

switch_line : (on : Bool) → IsOneLine (switch_word on)
switch_line true = word_line (codes "on") refl
switch_line false = word_line (codes "off") refl

-- two parts with a space between them
spaced : (front rest : List ℕ) → IsOneLine front → IsOneLine rest → IsOneLine (front ++ 32 ∷ rest)
spaced front rest p q = All-append (λ b. b ≢ 10) front (32 ∷ rest) p (after (codes " ") rest refl q)

limits_line : (limits : Limits) → AreLimits limits → IsOneLine (buffer_words limits)
limits_line limits are =
    spaced (decimal limits.count) (decimal limits.bytes ++ 32 ∷ decimal limits.frame) (decimal_line limits.count (omega (arith, are.count_not_more)))
    (spaced (decimal limits.bytes) (decimal limits.frame) (decimal_line limits.bytes (omega (arith, are.bytes_not_more)))
    (decimal_line limits.frame (omega (arith, are.frame_not_more))))

-- what stands in a head after its version, and after its codec
abbrev pub from_switch : Head → List ℕ
from_switch head = switch_word head.reconnect ++ 32 ∷ buffer_words head.limits

abbrev pub from_version : Head → List ℕ
from_version head = decimal head.version ++ 32 ∷ from_switch head

abbrev pub from_codec : Head → List ℕ
from_codec head = codec_word head.codec ++ 32 ∷ from_version head

pub head_line : (head : Head) → IsHead head → IsOneLine (head_words head)
head_line head is =
    after (codes "trace ") (from_codec head) refl
    (spaced (codec_word head.codec) (from_version head) (codec_line head.codec)
    (spaced (decimal head.version) (from_switch head) (decimal_line head.version (omega (arith, is.version.1)))
    (spaced (switch_word head.reconnect) (buffer_words head.limits) (switch_line head.reconnect) (limits_line head.limits is.limits))))

-- ---- lines

letter_line : (side : Side) (words : List ℕ) → IsOneLine words → IsOneLine (letter side ++ 32 ∷ words)
letter_line Client words line = after (codes "c ") words refl line
letter_line Server words line = after (codes "s ") words refl line

pub words_line : LinesAreLines → (told : TraceLine) → HasLine told.step → IsOneLine (line_words told)
words_line law told has = letter_line told.side (step_words told.step) (law.step_line told.step has)

-- what comes after the first bytes of one line is one line
pub rest_line : (front rest : List ℕ) → IsOneLine (front ++ rest) → IsOneLine rest
rest_line [] rest line = line
rest_line (b ∷ front) rest line = rest_line front rest (All-tail (λ k. k ≢ 10) b (front ++ rest) line)
