-- A token's bytes are spelled by the letters of base64.
use Rattle.std.proofs.Common.{◌≡◌, ◌<◌, ℕ, suc, ◌+◌, ◌*◌, ◌/◌, ◌%◌, ◌==◌, Bool, true, List, [], ◌∷◌, ◌++◌, length, take, drop}
use Rattle.std.proofs.Common.{slice_index, refl, ◌∙◌, arith}
use Rattle.std.proofs.lemmas.Bool.{eqb-true}
use Rattle.std.proofs.lemmas.List.{append-nil, take_at, drop_at}
use Rattle.base64.specs.Engines.{url_safe_no_pad}
use Rattle.base64.specs.GeneralPurpose.{IsBytes, encode_of}
use Rattle.base64.specs.Rfc4648.{encode_symbols}
use Rattle.base64.specs.Tables.{all_below}
use Rattle.base64.proofs.Tables.{all_below_at}
use Rattle.hd_server.specs.Texts.{letter, letters}

abbrev table : List ℕ
table = url_safe_no_pad.encode_table

is_letter : ℕ → Bool
is_letter n = slice_index table n == letter n

all_letters : all_below is_letter 64 ≡ true
unfolding is_letter
all_letters = refl

letter-is : (n : ℕ) → n < 64 → slice_index table n ≡ letter n
unfolding is_letter
letter-is n lt = eqb-true (slice_index table n) (letter n) (all_below_at is_letter 64 n all_letters lt)

-- in a table that has the letters whole groups are spelled by them
letters-by : (t : List ℕ) → ((n : ℕ) → n < 64 → slice_index t n ≡ letter n) → (m : List ℕ) → IsBytes m → length m % 3 ≡ 0
    → encode_symbols t m ≡ letters m
unfolding encode_symbols
letters-by t at [] bytes whole = refl
letters-by t at (a ∷ []) bytes whole = absurd (omega arith)
letters-by t at (a ∷ b ∷ []) bytes whole = absurd (omega arith)
letters-by t at (a ∷ b ∷ c ∷ rest) bytes whole =
    let first : a < 256 = bytes 0 in
    let second : b < 256 = bytes 1 in
    let third : c < 256 = bytes 2 in
    let one = at (a / 4) (omega arith) in
    let two = at (a % 4 * 16 + b / 16) (omega arith) in
    let three = at (b % 16 * 4 + c / 64) (omega arith) in
    let four = at (c % 64) (omega arith) in
    let more = letters-by t at rest (λ i. bytes (suc (suc (suc i)))) (omega arith) in
    rw (one, two, three, four, more) refl

pub encode_of-is : (m : List ℕ) → IsBytes m → length m % 3 ≡ 0 → encode_of url_safe_no_pad m ≡ letters m
encode_of-is m bytes whole = append-nil (encode_symbols table m) ∙ letters-by table letter-is m bytes whole

abbrev zeros : List ℕ
zeros = 0 ∷ 0 ∷ 0 ∷ 0 ∷ 0 ∷ 0 ∷ 0 ∷ 0 ∷ []

-- sixteen bytes, and eight over the zeros behind them
pub both-are : (first last : List ℕ) → length first ≡ 16
    → take 16 (first ++ zeros) ++ (last ++ drop 8 (drop 16 (first ++ zeros))) ≡ first ++ last
both-are first last sixteen = rw (take_at first zeros 16 sixteen, drop_at first zeros 16 sixteen, append-nil last) refl
