-- What is printed of a tree's tokens has these tokens again, and is UTF-8.
use Rattle.std.proofs.Common.{◌≡◌, ℕ, ℤ, pos, negsuc, Bool, false, List, [], ◌∷◌, ◌++◌, refl, arith}
use Rattle.std.specs.List.{AllByRecursion}
use Rattle.std.specs.Str.{IsUtf8}
use Rattle.std.proofs.lemmas.Fmt.{IsAscii-decimal, IsAscii-signed}
use Rattle.std.proofs.lemmas.Int.{ints}
use Rattle.std.proofs.lemmas.Str.{IsUtf8-nil, IsUtf8-append, IsUtf8-from_ascii}
use Rattle.base64.proofs.EngineFacts.{IsAscii-encode_of}
use Rattle.base64.specs.Engines.{standard}
use Rattle.json.specs.Lex.{tokens}
use Rattle.json.specs.Print.{print, print_from, separator, token_text, ends, IsNumber}
use Rattle.json.specs.Token.{Token}
use Rattle.json.specs.Tree.{HasNumbers, ItemsHaveNumbers, MembersHaveNumbers}
use Rattle.json.proofs.Printed.Decimals.{IsNumber-decimal, IsNumber-signed_decimal}
use Rattle.json.proofs.Printed.Tokens.{tokens-print}
use Rattle.json.proofs.Printed.Trees.{ArePrintable-json_tokens}
use Rattle.json.proofs.Printed.Utf8.{IsUtf8-are_ascii, IsUtf8-quoted, IsUtf8-key, IsUtf8-boolean, IsUtf8-separator}
use Rattle.serde_json.specs.Find.{of_integer}
use Rattle.serde_json.specs.Written.{number_text, outline, items_outline, members_outline}
use Rattle.hv_value.specs.Tree.{Tree, null, boolean, int, text, bytes, list, map, Trees, no_trees, more, Pairs, no_pairs, pair}
use Rattle.hv_value.specs.Image.{base64}
use Rattle.hv_value.specs.Whole.{IsWhole}
use Rattle.hv_json.specs.Sent.{sent, items_sent, members_sent, HasWholes, AllHaveWholes, PairsHaveWholes, HasUtf8, AllHaveUtf8, PairsHaveUtf8}
use Rattle.hv_json.specs.Writing.{json_of, items_of, members_of}
use Rattle.hv_json.specs.Laws.{WrittenIsReadAgain, TextIsReadAgain}

-- ---- the tokens are read back

is_number : (z : ℤ) → IsWhole z → IsNumber (number_text (of_integer z))
is_number (pos n) h = IsNumber-decimal n (omega (arith, ints, h.1))
is_number (negsuc n) h = IsNumber-signed_decimal (negsuc n) (omega (arith, ints, h.0))

mutual
  numbers : (t : Tree) → HasWholes t → HasNumbers (outline (json_of t))
  numbers null h = tt
  numbers (boolean b) h = tt
  numbers (int z) h = is_number z h
  numbers (text s) h = tt
  numbers (bytes s) h = tt
  numbers (list ts) h = item_numbers ts h
  numbers (map ps) h = member_numbers ps h

  item_numbers : (ts : Trees) → AllHaveWholes ts → ItemsHaveNumbers (items_outline (items_of ts))
  item_numbers no_trees h = tt
  item_numbers (more t ts) h = (numbers t h.0, item_numbers ts h.1)

  member_numbers : (ps : Pairs) → PairsHaveWholes ps → MembersHaveNumbers (members_outline (members_of ps))
  member_numbers no_pairs h = tt
  member_numbers (pair k t ps) h = (numbers t h.0, member_numbers ps h.1)

reads_back : (t : Tree) → HasWholes t → tokens (print (sent t)) ≡ sent t
reads_back t h = tokens-print (sent t) (ArePrintable-json_tokens (outline (json_of t)) (numbers t h))

-- ---- the text is UTF-8

abbrev AreUtf8 : List Token → Type 0
AreUtf8 ts = AllByRecursion (λ (t : Token). IsUtf8 (token_text t)) ts

joined : (ts us : List Token) → AreUtf8 ts → AreUtf8 us → AreUtf8 (ts ++ us)
joined [] us h k = k
joined (t ∷ ts) us h k = (h.0, joined ts us h.1 k)

printed_from : (after : Bool) (ts : List Token) → AreUtf8 ts → IsUtf8 (print_from after ts)
unfolding print_from
printed_from after [] h = IsUtf8-nil
printed_from after (t ∷ ts) h =
    IsUtf8-append (separator after t) (token_text t ++ print_from (ends t) ts) (IsUtf8-separator after t)
    (IsUtf8-append (token_text t) (print_from (ends t) ts) h.0 (printed_from (ends t) ts h.1))

number_utf8 : (z : ℤ) → IsWhole z → IsUtf8 (number_text (of_integer z))
number_utf8 (pos n) h = IsUtf8-from_ascii _ (IsAscii-decimal n (omega (arith, ints, h.1)))
number_utf8 (negsuc n) h = IsUtf8-from_ascii _ (IsAscii-signed (negsuc n) (omega (arith, ints, h.0)))

base64_utf8 : (s : List ℕ) → IsUtf8 (base64 s)
unfolding base64
base64_utf8 s = IsUtf8-from_ascii _ (IsAscii-encode_of standard s)

mutual
  sent_utf8 : (t : Tree) → HasWholes t → HasUtf8 t → AreUtf8 (sent t)
  sent_utf8 null w h = (IsUtf8-are_ascii _ refl, tt)
  sent_utf8 (boolean b) w h = (IsUtf8-boolean b, tt)
  sent_utf8 (int z) w h = (number_utf8 z w, tt)
  sent_utf8 (text s) w h = (IsUtf8-quoted s h, tt)
  sent_utf8 (bytes s) w h = (IsUtf8-quoted (base64 s) (base64_utf8 s), tt)
  sent_utf8 (list ts) w h = (IsUtf8-are_ascii _ refl, items_utf8 ts w h)
  sent_utf8 (map ps) w h = (IsUtf8-are_ascii _ refl, members_utf8 ps w h)

  items_utf8 : (ts : Trees) → AllHaveWholes ts → AllHaveUtf8 ts → AreUtf8 (items_sent ts)
  items_utf8 no_trees w h = (IsUtf8-are_ascii _ refl, tt)
  items_utf8 (more t ts) w h = joined (sent t) (items_sent ts) (sent_utf8 t w.0 h.0) (items_utf8 ts w.1 h.1)

  members_utf8 : (ps : Pairs) → PairsHaveWholes ps → PairsHaveUtf8 ps → AreUtf8 (members_sent ps)
  members_utf8 no_pairs w h = (IsUtf8-are_ascii _ refl, tt)
  members_utf8 (pair k t ps) w h = (IsUtf8-key k h.0, joined (sent t) (members_sent ps) (sent_utf8 t w.0 h.1) (members_utf8 ps w.1 h.2))

printed_utf8 : (t : Tree) → HasWholes t → HasUtf8 t → IsUtf8 (print (sent t))
printed_utf8 t w h = printed_from false (sent t) (sent_utf8 t w h)

pub read_again : WrittenIsReadAgain → TextIsReadAgain
read_again law t order wholes utf8 deep = law t order wholes deep (reads_back t wholes) (printed_utf8 t wholes utf8)
