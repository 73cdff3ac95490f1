-- What the short frames say. Each is what the kit's writer prints of its tokens, so it is read as the object of these tokens.
use Rattle.std.proofs.Common.{◌≡◌, ℕ, ◌<◌, ◌≤◌, ◌^◌, true, false, pos, List, [], ◌∷◌, ◌++◌, Option, Some, None, Ok, refl, sym, ap, ap₂, ◌∙◌, arith, append-nil, append_assoc}
use Rattle.std.specs.Prelude.{nat_lt, codes, ◌||◌, ◌==◌}
use Rattle.std.specs.Fmt.{decimal, digits}
use Rattle.std.specs.List.{list_all}
use Rattle.std.specs.Option.{option_and_then}
use Rattle.std.specs.Str.{IsUtf8}
use Rattle.std.proofs.lemmas.Bool.{and_parts, or_parts, not-true, eqb-false, ltb-false}
use Rattle.std.proofs.lemmas.Fmt.{IsAscii-decimal}
use Rattle.std.proofs.lemmas.Str.{IsUtf8-append, IsUtf8-from_ascii, is_utf8-from_IsUtf8}
use Rattle.json.specs.Json as json
use Rattle.json.specs.Json.{Json, value, if_last}
use Rattle.json.specs.Lex.{tokens}
use Rattle.json.specs.Print.{print, print_from, escape, escape_byte}
use Rattle.json.specs.Run.{is_plain}
use Rattle.json.specs.Token.{Token}
use Rattle.json.specs.Tree.{json_tokens, HasNumbers, depth}
use Rattle.json.proofs.Printed.Decimals.{IsNumber-decimal}
use Rattle.json.proofs.Printed.Strings.{escape_byte_plain}
use Rattle.json.proofs.Printed.Tokens.{tokens-print}
use Rattle.json.proofs.Printed.Trees.{value-json_tokens, ArePrintable-json_tokens}
use Rattle.json.proofs.Printed.Utf8.{are_ascii, IsUtf8-are_ascii}
use Rattle.serde_json.specs.Data as serde
use Rattle.serde_json.specs.Data.{Data, unsigned}
use Rattle.serde_json.specs.Read.{read, of_json}
use Rattle.serde_json.specs.Written.{has_float}
use Rattle.serde_json.proofs.Numbers.{number_of-decimal}
use Rattle.hv_value.specs.Laws.{LastPairCounts}
use Rattle.hv_value.specs.Tree.{Tree, Pair, int, text}
use Rattle.hv_json.specs.Reading.{json as json_of, judged, reading, tree_of}
use Rattle.hm_message.specs.Fields.{text_in, whole_in, number_in, headers_in}
use Rattle.hm_message.specs.Headers.{Header}
use Rattle.hm_message.specs.Name.{field_name}
use Rattle.hm_message.specs.declared.message.Field.TheVariants as field
use Rattle.hm_message.specs.declared.message.Message.TheVariants.{CancelInvocation, Ping, Ack, Sequence}
use Rattle.hm_json.specs.Properties.{needed, optional, unless_null}
use Rattle.hm_json.specs.Says.{Says}
use Rattle.hm_json.proofs.Again.{number_again}

-- ---- what is printed is read

abbrev whole : Option (Json × List Token) → Option Data
whole o = option_and_then of_json (option_and_then (λ p. if_last p.0 p.1) o)

read_printed : (bytes : List ℕ) (j : Json) (d : Data) → bytes ≡ print (json_tokens j) → IsUtf8 bytes → HasNumbers j → depth j ≤ 127 → of_json j ≡ Some d
    → has_float d ≡ false → nat_lt 64 (serde.depth d) ≡ false → reading bytes ≡ Ok (tree_of d)
unfolding reading
read_printed bytes j d is utf8 numbers flat converts no_float shallow =
    let back : tokens bytes ≡ json_tokens j = ap tokens is ∙ tokens-print (json_tokens j) (ArePrintable-json_tokens j numbers) in
    let parsed : value 127 (tokens bytes) ≡ Some (j, []) = ap (value 127) (back ∙ sym (append-nil (json_tokens j))) ∙ value-json_tokens j 127 [] flat in
    let found : read bytes ≡ Some d = ap whole parsed ∙ converts in
    let is_json : json_of bytes ≡ Some d = rw (is_utf8-from_IsUtf8 bytes utf8) found in
    ap judged is_json ∙ rw (no_float, shallow) refl

abbrev one : List ℕ → Json → Json
one k a = json.object (json.member k a json.no_members)

abbrev two : List ℕ → Json → List ℕ → Json → Json
two k a l b = json.object (json.member k a (json.member l b json.no_members))

abbrev one_data : List ℕ → Data → Data
one_data k x = serde.object (serde.member k x serde.no_members)

abbrev two_data : List ℕ → Data → List ℕ → Data → Data
two_data k x l y = serde.object (serde.put l y (serde.put k x serde.no_members))

one_converts : (k : List ℕ) (a : Json) (x : Data) → of_json a ≡ Some x → of_json (one k a) ≡ Some (one_data k x)
one_converts k a x e = rw e refl

two_convert : (k : List ℕ) (a : Json) (x : Data) (l : List ℕ) (b : Json) (y : Data) → of_json a ≡ Some x → of_json b ≡ Some y → of_json (two k a l b) ≡ Some (two_data k x l y)
two_convert k a x l b y e f = rw (e, f) refl

abbrev spelled : ℕ → Json
spelled n = json.number (decimal n)

number_converts : (n : ℕ) → n < 2 ^ 64 → of_json (spelled n) ≡ Some (serde.number (unsigned n))
number_converts n h = rw (number_of-decimal n h) refl

-- ---- the bytes of a number and of an id

plain_escape : (s : List ℕ) → list_all is_plain s ≡ true → escape s ≡ s
plain_escape [] h = refl
plain_escape (x ∷ xs) h =
    let parts = and_parts (is_plain x) (list_all is_plain xs) h in
    let none = or_parts ((x == 34) || (x == 92)) (nat_lt x 32) (not-true _ parts.0) in
    let tests = or_parts (x == 34) (x == 92) none.0 in
    ap₂ (λ (a b : List ℕ). a ++ b) (escape_byte_plain x (eqb-false x 34 tests.0) (eqb-false x 92 tests.1) (ltb-false x 32 none.1)) (plain_escape xs parts.1)

-- what stands in a string as it is, with its closing quote before what follows it
closed : (s rest : List ℕ) → list_all is_plain s ≡ true → s ++ 34 ∷ rest ≡ (escape s ++ 34 ∷ []) ++ rest
closed s rest h = ap (λ (x : List ℕ). x ++ 34 ∷ rest) (sym (plain_escape s h)) ∙ sym (append_assoc (escape s) (34 ∷ []) rest)

joined : (before rest : List ℕ) → are_ascii before ≡ true → IsUtf8 rest → IsUtf8 (before ++ rest)
joined before rest ascii utf8 = IsUtf8-append before rest (IsUtf8-are_ascii before ascii) utf8

number_joined : (n : ℕ) (rest : List ℕ) → n < 2 ^ 64 → IsUtf8 rest → IsUtf8 (decimal n ++ rest)
number_joined n rest h utf8 = IsUtf8-append (decimal n) rest (IsUtf8-from_ascii _ (IsAscii-decimal n h)) utf8

-- the digits of the types
five : decimal 5 ≡ codes "5"
unfolding digits
five = refl

six : decimal 6 ≡ codes "6"
unfolding digits
six = refl

eight : decimal 8 ≡ codes "8"
unfolding digits
eight = refl

nine : decimal 9 ≡ codes "9"
unfolding digits
nine = refl

-- ---- a Ping

abbrev ping_text : List ℕ → List ℕ
ping_text k = codes "{\"type\":" ++ (k ++ codes "}")

abbrev ping_data : Data
ping_data = one_data (codes "type") (serde.number (unsigned 6))

ping_printed : (k : List ℕ) → ping_text k ≡ print (json_tokens (one (codes "type") (json.number k)))
unfolding print_from escape_byte
ping_printed k = refl

ping_read : reading (ping_text (decimal 6)) ≡ Ok (tree_of ping_data)
ping_read =
    let small : 6 < 2 ^ 64 = omega arith in
    read_printed (ping_text (decimal 6)) (one (codes "type") (spelled 6)) ping_data (ping_printed (decimal 6))
    (joined (codes "{\"type\":") _ refl (number_joined 6 (codes "}") small (IsUtf8-are_ascii (codes "}") refl)))
    (IsNumber-decimal 6 small, tt) (omega arith) (one_converts (codes "type") (spelled 6) _ (number_converts 6 small)) refl refl

pub says_ping : LastPairCounts → (frame : List ℕ) → frame ≡ codes "{\"type\":6}" → Says frame Ping
says_ping law frame is =
    let ps : List Pair = (field_name field.Kind, int (pos 6)) ∷ [] in
    (tree_of ping_data, (ap reading (is ∙ ap ping_text (sym six)) ∙ ping_read, (tt, ap (needed field.Kind whole_in) (law ps (field_name field.Kind)), tt)))

-- ---- an Ack and a Sequence

-- the digits of the type, and those of the number
abbrev type_first : List ℕ → List ℕ → List ℕ
type_first k ds = codes "{\"type\":" ++ (k ++ (codes ",\"sequenceId\":" ++ (ds ++ codes "}")))

abbrev type_last : List ℕ → List ℕ → List ℕ
type_last k ds = codes "{\"sequenceId\":" ++ (ds ++ (codes ",\"type\":" ++ (k ++ codes "}")))

abbrev numbered_data : ℕ → ℕ → Data
numbered_data k n = two_data (codes "type") (serde.number (unsigned k)) (codes "sequenceId") (serde.number (unsigned n))

first_printed : (k ds : List ℕ) → type_first k ds ≡ print (json_tokens (two (codes "type") (json.number k) (codes "sequenceId") (json.number ds)))
unfolding print_from escape_byte
first_printed k ds = refl

last_printed : (k ds : List ℕ) → type_last k ds ≡ print (json_tokens (two (codes "sequenceId") (json.number ds) (codes "type") (json.number k)))
unfolding print_from escape_byte
last_printed k ds = refl

first_read : (k n : ℕ) → k < 2 ^ 64 → n < 2 ^ 64 → reading (type_first (decimal k) (decimal n)) ≡ Ok (tree_of (numbered_data k n))
first_read k n g h =
    let end : IsUtf8 (codes "}") = IsUtf8-are_ascii (codes "}") refl in
    read_printed (type_first (decimal k) (decimal n)) (two (codes "type") (spelled k) (codes "sequenceId") (spelled n)) (numbered_data k n) (first_printed (decimal k) (decimal n))
    (joined (codes "{\"type\":") _ refl (number_joined k _ g (joined (codes ",\"sequenceId\":") _ refl (number_joined n (codes "}") h end))))
    (IsNumber-decimal k g, (IsNumber-decimal n h, tt)) (omega arith)
    (two_convert (codes "type") (spelled k) _ (codes "sequenceId") (spelled n) _ (number_converts k g) (number_converts n h)) refl refl

last_read : (k n : ℕ) → k < 2 ^ 64 → n < 2 ^ 64 → reading (type_last (decimal k) (decimal n)) ≡ Ok (tree_of (numbered_data k n))
last_read k n g h =
    let end : IsUtf8 (codes "}") = IsUtf8-are_ascii (codes "}") refl in
    read_printed (type_last (decimal k) (decimal n)) (two (codes "sequenceId") (spelled n) (codes "type") (spelled k)) (numbered_data k n) (last_printed (decimal k) (decimal n))
    (joined (codes "{\"sequenceId\":") _ refl (number_joined n _ h (joined (codes ",\"type\":") _ refl (number_joined k (codes "}") g end))))
    (IsNumber-decimal n h, (IsNumber-decimal k g, tt)) (omega arith)
    (two_convert (codes "sequenceId") (spelled n) _ (codes "type") (spelled k) _ (number_converts n h) (number_converts k g)) refl refl

abbrev numbered_pairs : ℕ → ℕ → List Pair
numbered_pairs k n = (field_name field.SequenceId, int (pos n)) ∷ (field_name field.Kind, int (pos k)) ∷ []

says_ack : LastPairCounts → (frame : List ℕ) (n : ℕ) → n < 2 ^ 64 → reading frame ≡ Ok (tree_of (numbered_data 8 n)) → Says frame (Ack n)
says_ack law frame n h read_as =
    let ps = numbered_pairs 8 n in
    let typed = ap (needed field.Kind whole_in) (law ps (field_name field.Kind)) in
    let numbered = ap (needed field.SequenceId number_in) (law ps (field_name field.SequenceId)) ∙ number_again n h in
    (tree_of (numbered_data 8 n), (read_as, (tt, typed, numbered)))

says_sequence : LastPairCounts → (frame : List ℕ) (n : ℕ) → n < 2 ^ 64 → reading frame ≡ Ok (tree_of (numbered_data 9 n)) → Says frame (Sequence n None)
says_sequence law frame n h read_as =
    let ps = numbered_pairs 9 n in
    let typed = ap (needed field.Kind whole_in) (law ps (field_name field.Kind)) in
    let numbered = ap (needed field.SequenceId number_in) (law ps (field_name field.SequenceId)) ∙ number_again n h in
    let alone = ap (option_and_then number_in) (law ps (codes "received")) in
    (tree_of (numbered_data 9 n), (read_as, (tt, typed, (numbered, alone))))

pub says_ack_first : LastPairCounts → (frame : List ℕ) (n : ℕ) → frame ≡ codes "{\"type\":8,\"sequenceId\":" ++ (decimal n ++ codes "}") → n < 2 ^ 64 → Says frame (Ack n)
says_ack_first law frame n is h = says_ack law frame n h (ap reading (is ∙ ap (λ (k : List ℕ). type_first k (decimal n)) (sym eight)) ∙ first_read 8 n (omega arith) h)

pub says_ack_last : LastPairCounts → (frame : List ℕ) (n : ℕ) → frame ≡ codes "{\"sequenceId\":" ++ (decimal n ++ codes ",\"type\":8}") → n < 2 ^ 64 → Says frame (Ack n)
says_ack_last law frame n is h = says_ack law frame n h (ap reading (is ∙ ap (λ (k : List ℕ). type_last k (decimal n)) (sym eight)) ∙ last_read 8 n (omega arith) h)

pub says_sequence_first : LastPairCounts → (frame : List ℕ) (n : ℕ) → frame ≡ codes "{\"type\":9,\"sequenceId\":" ++ (decimal n ++ codes "}") → n < 2 ^ 64 → Says frame (Sequence n None)
says_sequence_first law frame n is h = says_sequence law frame n h (ap reading (is ∙ ap (λ (k : List ℕ). type_first k (decimal n)) (sym nine)) ∙ first_read 9 n (omega arith) h)

pub says_sequence_last : LastPairCounts → (frame : List ℕ) (n : ℕ) → frame ≡ codes "{\"sequenceId\":" ++ (decimal n ++ codes ",\"type\":9}") → n < 2 ^ 64 → Says frame (Sequence n None)
says_sequence_last law frame n is h = says_sequence law frame n h (ap reading (is ∙ ap (λ (k : List ℕ). type_last k (decimal n)) (sym nine)) ∙ last_read 9 n (omega arith) h)

-- ---- a cancellation

abbrev cancel_first : List ℕ → List ℕ → List ℕ
cancel_first k s = codes "{\"type\":" ++ (k ++ (codes ",\"invocationId\":\"" ++ (s ++ codes "\"}")))

abbrev cancel_last : List ℕ → List ℕ → List ℕ
cancel_last k s = codes "{\"invocationId\":\"" ++ (s ++ (codes "\",\"type\":" ++ (k ++ codes "}")))

abbrev cancel_data : List ℕ → Data
cancel_data s = two_data (codes "type") (serde.number (unsigned 5)) (codes "invocationId") (serde.string s)

cancel_first_printed : (k s : List ℕ) → list_all is_plain s ≡ true
    → cancel_first k s ≡ print (json_tokens (two (codes "type") (json.number k) (codes "invocationId") (json.string s)))
unfolding print_from escape_byte
cancel_first_printed k s h = ap (λ (x : List ℕ). codes "{\"type\":" ++ (k ++ (codes ",\"invocationId\":\"" ++ x))) (closed s (codes "}") h)

cancel_last_printed : (k s : List ℕ) → list_all is_plain s ≡ true
    → cancel_last k s ≡ print (json_tokens (two (codes "invocationId") (json.string s) (codes "type") (json.number k)))
unfolding print_from escape_byte
cancel_last_printed k s h = ap (λ (x : List ℕ). codes "{\"invocationId\":\"" ++ x) (closed s (codes ",\"type\":" ++ (k ++ codes "}")) h)

cancel_first_read : (s : List ℕ) → IsUtf8 s → list_all is_plain s ≡ true → reading (cancel_first (decimal 5) s) ≡ Ok (tree_of (cancel_data s))
cancel_first_read s utf8 plain =
    let small : 5 < 2 ^ 64 = omega arith in
    let end : IsUtf8 (s ++ codes "\"}") = IsUtf8-append s (codes "\"}") utf8 (IsUtf8-are_ascii (codes "\"}") refl) in
    read_printed (cancel_first (decimal 5) s) (two (codes "type") (spelled 5) (codes "invocationId") (json.string s)) (cancel_data s) (cancel_first_printed (decimal 5) s plain)
    (joined (codes "{\"type\":") _ refl (number_joined 5 _ small (joined (codes ",\"invocationId\":\"") _ refl end)))
    (IsNumber-decimal 5 small, (tt, tt)) (omega arith)
    (two_convert (codes "type") (spelled 5) _ (codes "invocationId") (json.string s) (serde.string s) (number_converts 5 small) refl) refl refl

cancel_last_read : (s : List ℕ) → IsUtf8 s → list_all is_plain s ≡ true → reading (cancel_last (decimal 5) s) ≡ Ok (tree_of (cancel_data s))
cancel_last_read s utf8 plain =
    let small : 5 < 2 ^ 64 = omega arith in
    let end : IsUtf8 (codes "\",\"type\":" ++ (decimal 5 ++ codes "}")) = joined (codes "\",\"type\":") _ refl (number_joined 5 (codes "}") small (IsUtf8-are_ascii (codes "}") refl)) in
    read_printed (cancel_last (decimal 5) s) (two (codes "invocationId") (json.string s) (codes "type") (spelled 5)) (cancel_data s) (cancel_last_printed (decimal 5) s plain)
    (joined (codes "{\"invocationId\":\"") _ refl (IsUtf8-append s _ utf8 end))
    (tt, (IsNumber-decimal 5 small, tt)) (omega arith)
    (two_convert (codes "invocationId") (json.string s) (serde.string s) (codes "type") (spelled 5) _ refl (number_converts 5 small)) refl refl

says_cancel : LastPairCounts → (frame s : List ℕ) → reading frame ≡ Ok (tree_of (cancel_data s)) → Says frame (CancelInvocation [] s)
says_cancel law frame s read_as =
    let ps : List Pair = (field_name field.InvocationId, text s) ∷ (field_name field.Kind, int (pos 5)) ∷ [] in
    let typed = ap (needed field.Kind whole_in) (law ps (field_name field.Kind)) in
    let headless = ap (λ (o : Option Tree). optional {A = List Header} [] field.Headers headers_in (unless_null o)) (law ps (field_name field.Headers)) in
    let named = ap (needed field.InvocationId text_in) (law ps (field_name field.InvocationId)) in
    (tree_of (cancel_data s), (read_as, (tt, typed, (headless, named))))

pub says_cancel_first : LastPairCounts → (frame s : List ℕ) → frame ≡ codes "{\"type\":5,\"invocationId\":\"" ++ (s ++ codes "\"}") → IsUtf8 s → list_all is_plain s ≡ true
    → Says frame (CancelInvocation [] s)
says_cancel_first law frame s is utf8 plain = says_cancel law frame s (ap reading (is ∙ ap (λ (k : List ℕ). cancel_first k s) (sym five)) ∙ cancel_first_read s utf8 plain)

pub says_cancel_last : LastPairCounts → (frame s : List ℕ) → frame ≡ codes "{\"invocationId\":\"" ++ (s ++ codes "\",\"type\":5}") → IsUtf8 s → list_all is_plain s ≡ true
    → Says frame (CancelInvocation [] s)
says_cancel_last law frame s is utf8 plain = says_cancel law frame s (ap reading (is ∙ ap (λ (k : List ℕ). cancel_last k s) (sym five)) ∙ cancel_last_read s utf8 plain)
