-- Properties that are written one after another.
use Rattle.std.proofs.Common.{◌≡◌, ℕ, ◌≤◌, true, false, List, [], ◌∷◌, ◌++◌, Some, None, refl, ap, sym, ◌∙◌, subst, arith, append_assoc}
use Rattle.std.proofs.lemmas.List.{append-nil}
use Rattle.std.specs.Prelude.{◌==◌, length, Result, Ok, Err, OnOk}
use Rattle.std.specs.Str.{IsUtf8}
use Rattle.std.specs.Map.{keys_of}
use Rattle.std.specs.List.Sorted.{IsStrictlySortedBy}
use Rattle.json.specs.Lex.{tokens}
use Rattle.json.specs.Print.{print}
use Rattle.json.specs.Token.{Token}
use Rattle.hv_value.specs.Tree.{Tree, int, list, map, Pair, pairs, trees, key_cmp, put_all, depth}
use Rattle.hv_value.specs.Order.{IsInOrder, AllInOrder, PairsInOrder, keys_of_pairs}
use Rattle.hv_value.specs.Image.{image}
use Rattle.hv_value.specs.Laws.{MapHasTheKeys, KeysOfAMapAreInOrder, LastPairCounts}
use Rattle.hv_json.specs.Laws.{WrittenIsReadAgain, TextIsReadAgain}
use Rattle.hv_json.specs.Sent.{sent, members_sent, items_sent, HasWholes, AllHaveWholes, PairsHaveWholes}
use Rattle.hm_message.specs.Headers.{Header, IsHeaders}
use Rattle.hm_message.specs.Kind.{number, kind_of}
use Rattle.hm_message.specs.Message.{Fits, message_image}
use Rattle.hm_message.specs.Trees.{texts, header_pairs, IsInRange}
use Rattle.hm_message.specs.Laws.{ValuesAreTrees}
use Rattle.hm_message.specs.Name.{field_name}
use Rattle.hm_message.specs.declared.message.Field.TheVariants as field
use Rattle.hm_message.specs.declared.message.Message.{Message}
use Rattle.hm_message.specs.declared.message.Message.TheVariants.{Invocation, StreamItem, Completion, StreamInvocation, CancelInvocation, Ping, Close, Ack, Sequence}
use Rattle.hm_message.specs.declared.message.Ending.TheVariants as ending
use Rattle.hm_json.specs.Frame.{property_of, headers_written, streams_written, written, object_of, frame_of}
use Rattle.hm_json.specs.Laws.{WrittenIsSaid}
use Rattle.hm_json.specs.Written.{in_name_order, tokens_of, Puts}
use Rattle.hm_json.specs.Says.{Says}
use Rattle.hm_json.proofs.Again.{keys-header_pairs, says_again}
use Rattle.hm_json.proofs.Depths.{in_name_depth}

tokens_of-append : (xs ys : List Pair) → tokens_of (xs ++ ys) ≡ tokens_of xs ++ tokens_of ys
tokens_of-append [] ys = refl
tokens_of-append (x ∷ xs) ys =
    ap (λ (ts : List Token). Token.key x.0 ∷ ts) (ap (λ (ts : List Token). sent x.1 ++ ts) (tokens_of-append xs ys) ∙ sym (append_assoc (sent x.1) (tokens_of xs) (tokens_of ys)))

wholes-append : (xs ys : List Pair) → PairsHaveWholes (pairs xs) → PairsHaveWholes (pairs ys) → PairsHaveWholes (pairs (xs ++ ys))
wholes-append [] ys p q = q
wholes-append (x ∷ xs) ys p q = (p.0, wholes-append xs ys p.1 q)

pub in_order-append : (xs ys : List Pair) → PairsInOrder (pairs xs) → PairsInOrder (pairs ys) → PairsInOrder (pairs (xs ++ ys))
in_order-append [] ys p q = q
in_order-append (x ∷ xs) ys p q = (p.0, in_order-append xs ys p.1 q)

pub puts_more : (a b c : List Token) (xs ys : List Pair) → Puts a b xs → Puts b c ys → Puts a c (xs ++ ys)
puts_more a b c xs ys p q = record {
  tokens = q.tokens ∙ ap (λ (ts : List Token). ts ++ tokens_of ys) p.tokens ∙ append_assoc a (tokens_of xs) (tokens_of ys) ∙ ap (λ (ts : List Token). a ++ ts) (sym (tokens_of-append xs ys));
  wholes = wholes-append xs ys p.wholes q.wholes;
  in_order = in_order-append xs ys p.in_order q.in_order;
}

pub puts_none : (a : List Token) → Puts a a []
puts_none a = record { tokens = sym (append-nil a); wholes = tt; in_order = tt }

pub puts_one : (a b : List Token) (k : List ℕ) (t : Tree) → b ≡ a ++ (Token.key k ∷ sent t) → HasWholes t → IsInOrder t → Puts a b ((k, t) ∷ [])
puts_one a b k t e w o = record {
  tokens = e ∙ ap (λ (ts : List Token). a ++ (Token.key k ∷ ts)) (sym (append-nil (sent t)));
  wholes = (w, tt);
  in_order = (o, tt);
}

-- with the bracket that closes the object
pub closed : (ps : List Pair) → members_sent (pairs ps) ≡ tokens_of ps ++ Token.end_object ∷ []
closed [] = refl
closed (p ∷ ps) =
    ap (λ (ts : List Token). Token.key p.0 ∷ ts) (ap (λ (ts : List Token). sent p.1 ++ ts) (closed ps) ∙ sym (append_assoc (sent p.1) (tokens_of ps) (Token.end_object ∷ [])))

-- ---- headers and texts

pub header_wholes : (hs : List Header) → PairsHaveWholes (pairs (header_pairs hs))
header_wholes [] = tt
header_wholes (h ∷ hs) = (tt, header_wholes hs)

header_order : (hs : List Header) → PairsInOrder (pairs (header_pairs hs))
header_order [] = tt
header_order (h ∷ hs) = (tt, header_order hs)

pub headers_in_order : MapHasTheKeys → (hs : List Header) → IsHeaders hs → IsInOrder (map (pairs (header_pairs hs)))
headers_in_order keys hs h =
    (subst (IsStrictlySortedBy key_cmp) (sym (keys (header_pairs hs) ∙ keys-header_pairs hs)) h, header_order hs)

pub text_wholes : (ss : List (List ℕ)) → AllHaveWholes (trees (texts ss))
text_wholes [] = tt
text_wholes (s ∷ ss) = (tt, text_wholes ss)

pub text_order : (ss : List (List ℕ)) → AllInOrder (trees (texts ss))
text_order [] = tt
text_order (s ∷ ss) = (tt, text_order ss)

-- ---- the object has its properties in byte order of their names

pub object_is : (m : Message) → object_of m ≡ map (pairs (in_name_order m))
object_is (Invocation [] None s xs []) = refl
object_is (Invocation [] None s xs (t ∷ ts)) = refl
object_is (Invocation [] (Some id) s xs []) = refl
object_is (Invocation [] (Some id) s xs (t ∷ ts)) = refl
object_is (Invocation (h ∷ hs) None s xs []) = refl
object_is (Invocation (h ∷ hs) None s xs (t ∷ ts)) = refl
object_is (Invocation (h ∷ hs) (Some id) s xs []) = refl
object_is (Invocation (h ∷ hs) (Some id) s xs (t ∷ ts)) = refl
object_is (StreamItem [] id v) = refl
object_is (StreamItem (h ∷ hs) id v) = refl
object_is (Completion [] id ending.Void) = refl
object_is (Completion [] id (ending.Result v)) = refl
object_is (Completion [] id (ending.Error s)) = refl
object_is (Completion (h ∷ hs) id ending.Void) = refl
object_is (Completion (h ∷ hs) id (ending.Result v)) = refl
object_is (Completion (h ∷ hs) id (ending.Error s)) = refl
object_is (StreamInvocation [] id s xs []) = refl
object_is (StreamInvocation [] id s xs (t ∷ ts)) = refl
object_is (StreamInvocation (h ∷ hs) id s xs []) = refl
object_is (StreamInvocation (h ∷ hs) id s xs (t ∷ ts)) = refl
object_is (CancelInvocation [] id) = refl
object_is (CancelInvocation (h ∷ hs) id) = refl
object_is Ping = refl
object_is (Close None true) = refl
object_is (Close None false) = refl
object_is (Close (Some s) true) = refl
object_is (Close (Some s) false) = refl
object_is (Ack n) = refl
object_is (Sequence m None) = refl
object_is (Sequence m (Some n)) = refl

-- its keys are in order, as those of every map
abbrev map_keys : Tree → List (List ℕ)
map_keys (map ps) = keys_of_pairs ps
map_keys t = []

pub object_in_order : MapHasTheKeys → KeysOfAMapAreInOrder → (m : Message) → PairsInOrder (pairs (in_name_order m)) → IsInOrder (object_of m)
object_in_order keys sorted m o =
    let ws : List Pair = property_of field.Kind (int (number (kind_of m))) ++ written m in
    let same : keys_of (put_all [] ws) ≡ keys_of_pairs (pairs (in_name_order m)) = sym (keys (put_all [] ws)) ∙ ap map_keys (object_is m) in
    subst IsInOrder (sym (object_is m)) (subst (IsStrictlySortedBy key_cmp) same (sorted ws), o)

pub object_depth : (m : Message) → Fits m → depth (object_of m) ≤ 64
object_depth m h = subst (λ (t : Tree). depth t ≤ 64) (sym (object_is m)) (omega (arith, in_name_depth m h))

-- ---- headers and stream ids that are there

pub puts_headers : MapHasTheKeys → (a b : List Token) (ms hs : List Header) → ms ≡ hs → IsHeaders hs → (length ms == 0) ≡ false
    → b ≡ ((a ++ Token.key (field_name field.Headers) ∷ []) ++ Token.begin_object ∷ []) ++ members_sent (pairs (header_pairs ms)) → Puts a b (headers_written hs)
puts_headers keys a b ms hs same h some e = subst (λ (x : List Header). Puts a b (headers_written x)) same (go ms (subst IsHeaders (sym same) h) some e)
  where
    go : (xs : List Header) → IsHeaders xs → (length xs == 0) ≡ false
        → b ≡ ((a ++ Token.key (field_name field.Headers) ∷ []) ++ Token.begin_object ∷ []) ++ members_sent (pairs (header_pairs xs)) → Puts a b (headers_written xs)
    go [] h some e = absurd cc
    go (x ∷ xs) h some e =
        let ts : List Token = members_sent (pairs (header_pairs (x ∷ xs))) in
        puts_one a b (field_name field.Headers) (map (pairs (header_pairs (x ∷ xs))))
        (e ∙ append_assoc (a ++ Token.key (field_name field.Headers) ∷ []) (Token.begin_object ∷ []) ts ∙ append_assoc a (Token.key (field_name field.Headers) ∷ []) (Token.begin_object ∷ ts))
        (header_wholes (x ∷ xs)) (headers_in_order keys (x ∷ xs) h)

pub puts_streams : (a b : List Token) (ms ss : List (List ℕ)) → ms ≡ ss → (length ms == 0) ≡ false
    → b ≡ ((a ++ Token.key (field_name field.StreamIds) ∷ []) ++ Token.begin_array ∷ []) ++ items_sent (trees (texts ms)) → Puts a b (streams_written ss)
puts_streams a b ms ss same some e = subst (λ (x : List (List ℕ)). Puts a b (streams_written x)) same (go ms some e)
  where
    go : (xs : List (List ℕ)) → (length xs == 0) ≡ false
        → b ≡ ((a ++ Token.key (field_name field.StreamIds) ∷ []) ++ Token.begin_array ∷ []) ++ items_sent (trees (texts xs)) → Puts a b (streams_written xs)
    go [] some e = absurd cc
    go (x ∷ xs) some e =
        let ts : List Token = items_sent (trees (texts (x ∷ xs))) in
        puts_one a b (field_name field.StreamIds) (list (trees (texts (x ∷ xs))))
        (e ∙ append_assoc (a ++ Token.key (field_name field.StreamIds) ∷ []) (Token.begin_array ∷ []) ts ∙ append_assoc a (Token.key (field_name field.StreamIds) ∷ []) (Token.begin_array ∷ ts))
        (text_wholes (x ∷ xs)) (text_order (x ∷ xs))

-- ---- what was written says the message

pub on_ok : {T E P Q : Type 0} (r : Result T E) → (P → Q) → OnOk r P → OnOk r Q
on_ok (Ok x) f p = f p
on_ok (Err e) f p = p

-- what is known of a value that was written
pub record IsWritten (now : List Token) (m : Message) : Type 0 where
  pub tokens : now ≡ sent (object_of m)
  pub wholes : HasWholes (object_of m)
  pub in_order : IsInOrder (object_of m)
  pub in_range : IsInRange m

pub says_written : ValuesAreTrees → LastPairCounts → WrittenIsReadAgain → (now : List Token) (m : Message) → Fits m → tokens (print now) ≡ now → IsUtf8 (print now)
    → IsWritten now m → Says (frame_of m) (message_image m)
says_written same last again now m fits back utf8 w =
    let ws : List Pair = property_of field.Kind (int (number (kind_of m))) ++ written m in
    let back_ : tokens (print (sent (object_of m))) ≡ sent (object_of m) = subst (λ (ts : List Token). tokens (print ts) ≡ ts) w.tokens back in
    let utf8_ : IsUtf8 (print (sent (object_of m))) = subst (λ (ts : List Token). IsUtf8 (print ts)) w.tokens utf8 in
    (image (object_of m), (again (object_of m) w.in_order w.wholes (object_depth m fits) back_ utf8_, says_again same (object_of m) m w.in_range tt (λ key. last ws key)))

pub all_four : {T E : Type 0} (r : Result T E) (old now : List Token) (m : Message) → old ≡ [] → OnOk r (now ≡ old ++ sent (object_of m)) → OnOk r (HasWholes (object_of m)) → OnOk r (IsInOrder (object_of m))
    → OnOk r (IsInRange m) → OnOk r (IsWritten now m)
all_four (Ok x) old now m none a b c d = record { tokens = a ∙ ap (λ (ts : List Token). ts ++ sent (object_of m)) none; wholes = b; in_order = c; in_range = d }
all_four (Err e) old now m none a b c d = a

-- the same of a message that nothing was written of
pub says_well_formed : ValuesAreTrees → LastPairCounts → TextIsReadAgain → WrittenIsSaid
says_well_formed same last again m w =
    let ws : List Pair = property_of field.Kind (int (number (kind_of m))) ++ written m in
    (image (object_of m), (again (object_of m) w.in_order w.wholes w.utf8 (object_depth m w.fits), says_again same (object_of m) m w.in_range tt (λ key. last ws key)))
