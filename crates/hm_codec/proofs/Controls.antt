-- What is written of a message that is not sequenced says the message, and is short.
use Rattle.std.proofs.Common.{◌≡◌, ◌≢◌, ℕ, ◌+◌, ◌*◌, ◌/◌, ◌%◌, ◌^◌, ◌<◌, ◌≤◌, Bool, true, false, cond, pos, List, [], ◌∷◌, ◌++◌, length, Option, Some, None, refl, subst, arith, length-append}
use Rattle.std.specs.Prelude.{codes, nat_lt, MatchOption, ⊤}
use Rattle.std.specs.Char.{digit_char}
use Rattle.std.specs.Fmt.{decimal, digits}
use Rattle.std.proofs.lemmas.Fmt.{length-decimal-le}
use Rattle.std.specs.List.Sorted.{IsStrictlySortedBy}
use Rattle.std.specs.declared.cmp.Ordering.TheVariants.{Less}
use Rattle.std.proofs.lemmas.Bool.{cond_both}
use Rattle.std.proofs.lemmas.Int.{ints}
use Rattle.std.proofs.lemmas.List.Elements.{All-weaker}
use Rattle.std.specs.Str.{IsUtf8}
use Rattle.json.proofs.Printed.Utf8.{are_ascii, IsUtf8-are_ascii}
use Rattle.json.specs.Print.{escape, escape_byte, escape_letter}
use Rattle.hf_split.specs.Cuts.{IsPlain, separator}
use Rattle.hv_value.specs.Tree.{key_cmp, Tree}
use Rattle.hv_value.specs.Order.{IsInOrder}
use Rattle.hv_value.specs.Whole.{IsWhole}
use Rattle.hv_json.specs.Laws.{TextHasNoControl}
use Rattle.hv_json.specs.Writing.{json_text}
use Rattle.hv_pack.specs.Writing.{IsWritable, int_text, text_head, list_head, bool_text}
use Rattle.hv_pack.specs.Formats.{NIL}
use Rattle.hm_message.specs.declared.message.Codec.TheVariants.{Json, Pack}
use Rattle.hm_message.specs.declared.message.Message.{Message}
use Rattle.hm_message.specs.declared.message.Message.TheVariants.{Invocation, StreamItem, Completion, StreamInvocation, CancelInvocation, Ping, Close, Ack, Sequence}
use Rattle.hm_message.specs.Message.{message_image}
use Rattle.hm_json.specs.Frame as json
use Rattle.hm_json.specs.Laws as json_laws
use Rattle.hm_json.specs.Says.{Says as json_says}
use Rattle.hm_pack.specs.Frame as pack
use Rattle.hm_pack.specs.Laws as pack_laws
use Rattle.hm_codec.specs.Laws.{IsText, IsControl, ControlsAreSaid, ControlsAreShort, FrameIsOfImage, error_length, most_of_control, most_of_escape}

pub of_image : json_laws.FrameIsOfImage → FrameIsOfImage
of_image law Json m = law m
of_image law Pack m = refl

-- ---- the objects

one_key : (a : List ℕ) → IsStrictlySortedBy key_cmp (a ∷ [])
unfolding IsStrictlySortedBy
one_key a = (tt, tt)

two_keys : (a b : List ℕ) → key_cmp a b ≡ Less → IsStrictlySortedBy key_cmp (a ∷ b ∷ [])
unfolding IsStrictlySortedBy
two_keys a b e = ((e, tt), (tt, tt))

three_keys : (a b c : List ℕ) → key_cmp a b ≡ Less → key_cmp a c ≡ Less → key_cmp b c ≡ Less → IsStrictlySortedBy key_cmp (a ∷ b ∷ c ∷ [])
unfolding IsStrictlySortedBy
three_keys a b c e f g = ((e, (f, tt)), ((g, tt), (tt, tt)))

is_whole : (n : ℕ) → n < 2 ^ 64 → IsWhole (pos n)
is_whole n h = (omega (arith, ints), omega (arith, ints, h))

-- the names of properties are ASCII
is_name : (s : List ℕ) → are_ascii s ≡ true → IsUtf8 s
is_name s e = IsUtf8-are_ascii s e

json_well_formed : (m : Message) → IsControl m → json_laws.IsWellFormed m
json_well_formed Ping h = record { fits = omega arith; in_range = tt; in_order = (one_key _, (tt, tt)); wholes = (is_whole 6 (omega arith), tt); utf8 = (is_name _ refl, tt, tt) }
json_well_formed (Close None true) h =
    record { fits = omega arith; in_range = tt; in_order = (two_keys _ _ refl, (tt, (tt, tt))); wholes = (tt, (is_whole 7 (omega arith), tt)); utf8 = (is_name _ refl, tt, (is_name _ refl, tt, tt)) }
json_well_formed (Close None false) h = record { fits = omega arith; in_range = tt; in_order = (one_key _, (tt, tt)); wholes = (is_whole 7 (omega arith), tt); utf8 = (is_name _ refl, tt, tt) }
json_well_formed (Close (Some s) true) h =
    record {
      fits = omega arith;
      in_range = tt;
      in_order = (three_keys _ _ _ refl refl refl, (tt, (tt, (tt, tt))));
      wholes = (tt, (tt, (is_whole 7 (omega arith), tt)));
      utf8 = (is_name _ refl, tt, (is_name _ refl, h.0, (is_name _ refl, tt, tt)));
    }
json_well_formed (Close (Some s) false) h =
    record { fits = omega arith; in_range = tt; in_order = (two_keys _ _ refl, (tt, (tt, tt))); wholes = (tt, (is_whole 7 (omega arith), tt)); utf8 = (is_name _ refl, h.0, (is_name _ refl, tt, tt)) }
json_well_formed (Ack n) h =
    record { fits = omega arith; in_range = h; in_order = (two_keys _ _ refl, (tt, (tt, tt))); wholes = (is_whole n h, (is_whole 8 (omega arith), tt)); utf8 = (is_name _ refl, tt, (is_name _ refl, tt, tt)) }
json_well_formed (Sequence n None) h =
    record { fits = omega arith; in_range = h; in_order = (two_keys _ _ refl, (tt, (tt, tt))); wholes = (is_whole n h.0, (is_whole 9 (omega arith), tt)); utf8 = (is_name _ refl, tt, (is_name _ refl, tt, tt)) }
json_well_formed (Sequence n (Some k)) h =
    record {
      fits = omega arith;
      in_range = h;
      in_order = (three_keys _ _ _ refl refl refl, (tt, (tt, (tt, tt))));
      wholes = (is_whole k h.1, (is_whole n h.0, (is_whole 9 (omega arith), tt)));
      utf8 = (is_name _ refl, tt, (is_name _ refl, tt, (is_name _ refl, tt, tt)));
    }
json_well_formed (Invocation headers id target arguments streams) h = absurd h
json_well_formed (StreamItem headers id item) h = absurd h
json_well_formed (Completion headers id end) h = absurd h
json_well_formed (StreamInvocation headers id target arguments streams) h = absurd h
json_well_formed (CancelInvocation headers id) h = absurd h

-- ---- the arrays

text_writable : (s : Option (List ℕ)) → MatchOption s ⊤ IsText → IsWritable (pack.text_written s)
text_writable None h = tt
text_writable (Some s) h = (h.1, h.0)

text_order : (s : Option (List ℕ)) → IsInOrder (pack.text_written s)
text_order None = tt
text_order (Some s) = tt

pack_well_formed : (m : Message) → IsControl m → pack_laws.IsWellFormed m
pack_well_formed Ping h = record { fits = omega arith; in_range = tt; in_order = (tt, tt); writable = (omega arith, (is_whole 6 (omega arith), tt)) }
pack_well_formed (Close error allow) h =
    record { fits = omega arith; in_range = tt; in_order = (tt, (text_order error, (tt, tt))); writable = (omega arith, (is_whole 7 (omega arith), (text_writable error h, (tt, tt)))) }
pack_well_formed (Ack n) h = record { fits = omega arith; in_range = h; in_order = (tt, (tt, tt)); writable = (omega arith, (is_whole 8 (omega arith), (is_whole n h, tt))) }
pack_well_formed (Sequence n None) h = record { fits = omega arith; in_range = h; in_order = (tt, (tt, tt)); writable = (omega arith, (is_whole 9 (omega arith), (is_whole n h.0, tt))) }
pack_well_formed (Sequence n (Some k)) h =
    record { fits = omega arith; in_range = h; in_order = (tt, (tt, (tt, tt))); writable = (omega arith, (is_whole 9 (omega arith), (is_whole n h.0, (is_whole k h.1, tt)))) }
pack_well_formed (Invocation headers id target arguments streams) h = absurd h
pack_well_formed (StreamItem headers id item) h = absurd h
pack_well_formed (Completion headers id end) h = absurd h
pack_well_formed (StreamInvocation headers id target arguments streams) h = absurd h
pack_well_formed (CancelInvocation headers id) h = absurd h

-- ---- the frames are short: in JSON

byte_length : (x : ℕ) → length (escape_byte x) ≤ most_of_escape
unfolding escape_byte
byte_length x =
    let P : List ℕ → Type 0 = λ s. length s ≤ most_of_escape in
    cond_both (nat_lt 0 (escape_letter x)) (92 ∷ escape_letter x ∷ [])
    (cond (nat_lt x 32) (92 ∷ 117 ∷ 48 ∷ 48 ∷ digit_char (x / 16) ∷ digit_char (x % 16) ∷ []) (x ∷ [])) P (λ _. omega arith)
    (λ _. cond_both (nat_lt x 32) (92 ∷ 117 ∷ 48 ∷ 48 ∷ digit_char (x / 16) ∷ digit_char (x % 16) ∷ []) (x ∷ []) P (λ _. omega arith) (λ _. omega arith))

pub escape_length : (s : List ℕ) → length (escape s) ≤ most_of_escape * length s
escape_length [] = omega arith
escape_length (x ∷ s) = omega (arith, length-append (escape_byte x) (escape s), byte_length x, escape_length s)

decimal_length : (n : ℕ) → n < 2 ^ 64 → length (decimal n) ≤ 20
decimal_length n h = length-decimal-le 20 n (omega arith) (omega arith) h

ack_text : (n : ℕ) → json.frame_of (Ack n) ≡ codes "{\"sequenceId\":" ++ (decimal n ++ codes ",\"type\":8}")
unfolding json_text escape_byte digits
ack_text n = refl

sequence_text : (n : ℕ) → json.frame_of (Sequence n None) ≡ codes "{\"sequenceId\":" ++ (decimal n ++ codes ",\"type\":9}")
unfolding json_text escape_byte digits
sequence_text n = refl

received_text : (n k : ℕ) → json.frame_of (Sequence n (Some k)) ≡ codes "{\"received\":" ++ (decimal k ++ (codes ",\"sequenceId\":" ++ (decimal n ++ codes ",\"type\":9}")))
unfolding json_text escape_byte digits
received_text n k = refl

error_text : (s : List ℕ) → json.frame_of (Close (Some s) false) ≡ codes "{\"error\":\"" ++ ((escape s ++ codes "\"") ++ codes ",\"type\":7}")
unfolding json_text escape_byte digits
error_text s = refl

both_text : (s : List ℕ) → json.frame_of (Close (Some s) true) ≡ codes "{\"allowReconnect\":true,\"error\":\"" ++ ((escape s ++ codes "\"") ++ codes ",\"type\":7}")
unfolding json_text escape_byte digits
both_text s = refl

ping_text : json.frame_of Ping ≡ codes "{\"type\":6}"
unfolding json_text escape_byte digits
ping_text = refl

close_text : json.frame_of (Close None false) ≡ codes "{\"type\":7}"
unfolding json_text escape_byte digits
close_text = refl

allow_text : json.frame_of (Close None true) ≡ codes "{\"allowReconnect\":true,\"type\":7}"
unfolding json_text escape_byte digits
allow_text = refl

json_short : (m : Message) → IsControl m → length (json.frame_of m) ≤ most_of_control + most_of_escape * error_length m
json_short Ping h = rw ping_text (omega arith)
json_short (Close None true) h = rw allow_text (omega arith)
json_short (Close None false) h = rw close_text (omega arith)
json_short (Close (Some s) true) h =
    rw (both_text s) (omega (arith, length-append (escape s ++ codes "\"") (codes ",\"type\":7}"), length-append (escape s) (codes "\""), escape_length s))
json_short (Close (Some s) false) h =
    rw (error_text s) (omega (arith, length-append (escape s ++ codes "\"") (codes ",\"type\":7}"), length-append (escape s) (codes "\""), escape_length s))
json_short (Ack n) h = rw (ack_text n) (omega (arith, length-append (decimal n) (codes ",\"type\":8}"), decimal_length n h))
json_short (Sequence n None) h = rw (sequence_text n) (omega (arith, length-append (decimal n) (codes ",\"type\":9}"), decimal_length n h.0))
json_short (Sequence n (Some k)) h =
    let last : List ℕ = decimal n ++ codes ",\"type\":9}" in
    rw (received_text n k)
    (omega (arith, length-append (decimal k) (codes ",\"sequenceId\":" ++ last), length-append (decimal n) (codes ",\"type\":9}"), decimal_length n h.0, decimal_length k h.1))
json_short (Invocation headers id target arguments streams) h = absurd h
json_short (StreamItem headers id item) h = absurd h
json_short (Completion headers id end) h = absurd h
json_short (StreamInvocation headers id target arguments streams) h = absurd h
json_short (CancelInvocation headers id) h = absurd h

-- ---- in MessagePack

pub int_length : (n : ℕ) → length (int_text (pos n)) ≤ 9
unfolding int_text
int_length n =
    let P : List ℕ → Type 0 = λ s. length s ≤ 9 in
    cond_both (nat_lt n 128) _ _ P (λ _. omega arith)
    (λ _. cond_both (nat_lt n (2 ^ 8)) _ _ P (λ _. omega arith)
    (λ _. cond_both (nat_lt n (2 ^ 16)) _ _ P (λ _. omega arith)
    (λ _. cond_both (nat_lt n (2 ^ 32)) _ _ P (λ _. omega arith) (λ _. omega arith))))

pub head_length : (n : ℕ) → length (text_head n) ≤ 5
unfolding text_head
head_length n =
    let P : List ℕ → Type 0 = λ s. length s ≤ 5 in
    cond_both (nat_lt n 32) _ _ P (λ _. omega arith)
    (λ _. cond_both (nat_lt n (2 ^ 8)) _ _ P (λ _. omega arith)
    (λ _. cond_both (nat_lt n (2 ^ 16)) _ _ P (λ _. omega arith) (λ _. omega arith)))

pub list_length : (n : ℕ) → length (list_head n) ≤ 5
unfolding list_head
list_length n =
    let P : List ℕ → Type 0 = λ s. length s ≤ 5 in
    cond_both (nat_lt n 16) _ _ P (λ _. omega arith) (λ _. cond_both (nat_lt n (2 ^ 16)) _ _ P (λ _. omega arith) (λ _. omega arith))

bool_length : (b : Bool) → length (bool_text b) ≡ 1
bool_length true = refl
bool_length false = refl

pack_short : (m : Message) → IsControl m → length (pack.frame_of m) ≤ most_of_control + most_of_escape * error_length m
pack_short Ping h = omega (arith, length-append (list_head 1) (int_text (pos 6) ++ []), length-append (int_text (pos 6)) [], list_length 1, int_length 6)
pack_short (Close None allow) h =
    let last : List ℕ = bool_text allow ++ [] in
    let rest : List ℕ = NIL ∷ last in
    omega (arith, length-append (list_head 3) (int_text (pos 7) ++ rest), length-append (int_text (pos 7)) rest, length-append (bool_text allow) [], list_length 3, int_length 7, bool_length allow)
pack_short (Close (Some s) allow) h =
    let last : List ℕ = bool_text allow ++ [] in
    let rest : List ℕ = (text_head (length s) ++ s) ++ last in
    omega (
      arith,
      length-append (list_head 3) (int_text (pos 7) ++ rest),
      length-append (int_text (pos 7)) rest,
      length-append (text_head (length s) ++ s) last,
      length-append (text_head (length s)) s,
      length-append (bool_text allow) [],
      list_length 3,
      int_length 7,
      head_length (length s),
      bool_length allow,
    )
pack_short (Ack n) h =
    let rest : List ℕ = int_text (pos n) ++ [] in
    omega (arith, length-append (list_head 2) (int_text (pos 8) ++ rest), length-append (int_text (pos 8)) rest, length-append (int_text (pos n)) [], list_length 2, int_length 8, int_length n)
pack_short (Sequence n None) h =
    let rest : List ℕ = int_text (pos n) ++ [] in
    omega (arith, length-append (list_head 2) (int_text (pos 9) ++ rest), length-append (int_text (pos 9)) rest, length-append (int_text (pos n)) [], list_length 2, int_length 9, int_length n)
pack_short (Sequence n (Some k)) h =
    let last : List ℕ = int_text (pos k) ++ [] in
    let rest : List ℕ = int_text (pos n) ++ last in
    omega (
      arith,
      length-append (list_head 3) (int_text (pos 9) ++ rest),
      length-append (int_text (pos 9)) rest,
      length-append (int_text (pos n)) last,
      length-append (int_text (pos k)) [],
      list_length 3,
      int_length 9,
      int_length n,
      int_length k,
    )
pack_short (Invocation headers id target arguments streams) h = absurd h
pack_short (StreamItem headers id item) h = absurd h
pack_short (Completion headers id end) h = absurd h
pack_short (StreamInvocation headers id target arguments streams) h = absurd h
pack_short (CancelInvocation headers id) h = absurd h

pub short : ControlsAreShort
short Json m h = json_short m h
short Pack m h = pack_short m h

error_bound : (m : Message) → IsControl m → error_length m < 2 ^ 32
error_bound Ping h = omega arith
error_bound (Close None allow) h = omega arith
error_bound (Close (Some s) allow) h = h.1
error_bound (Ack n) h = omega arith
error_bound (Sequence n k) h = omega arith
error_bound (Invocation headers id target arguments streams) h = absurd h
error_bound (StreamItem headers id item) h = absurd h
error_bound (Completion headers id end) h = absurd h
error_bound (StreamInvocation headers id target arguments streams) h = absurd h
error_bound (CancelInvocation headers id) h = absurd h

image_is : (m : Message) → IsControl m → message_image m ≡ m
image_is Ping h = refl
image_is (Close error allow) h = refl
image_is (Ack n) h = refl
image_is (Sequence n k) h = refl
image_is (Invocation headers id target arguments streams) h = absurd h
image_is (StreamItem headers id item) h = absurd h
image_is (Completion headers id end) h = absurd h
image_is (StreamInvocation headers id target arguments streams) h = absurd h
image_is (CancelInvocation headers id) h = absurd h

plain : TextHasNoControl → (t : Tree) → IsPlain (json_text t)
plain law t = All-weaker (λ b. 32 ≤ b) (λ b. b ≢ separator) (λ b h e. omega arith) (json_text t) (law t)

pub said : json_laws.WrittenIsSaid → pack_laws.WrittenIsSaid → TextHasNoControl → ControlsAreSaid
said as_json as_pack control Json m h =
    (record { says = subst (json_says (json.frame_of m)) (image_is m h) (as_json m (json_well_formed m h)); wraps = plain control (json.object_of m) }, tt)
said as_json as_pack control Pack m h =
    let w = pack_well_formed m h in
    (record { says = as_pack m w; wraps = omega (arith, pack_short m h, error_bound m h) }, w.writable)
