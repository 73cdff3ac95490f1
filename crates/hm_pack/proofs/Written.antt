-- The text of headers and texts as they are written one after another.
use Rattle.std.proofs.Common.{◌≡◌, ℕ, suc, ◌^◌, ◌<◌, List, [], ◌∷◌, ◌++◌, length, refl, sym, ap, ◌∙◌, append_assoc}
use Rattle.std.proofs.lemmas.List.{append-nil}
use Rattle.std.specs.Map.{keys_of}
use Rattle.std.specs.Str.{IsUtf8}
use Rattle.hv_value.specs.Tree.{trees, pairs}
use Rattle.hv_value.specs.Order.{IsInOrder, AllInOrder, PairsInOrder}
use Rattle.hv_value.specs.Laws.{MapHasTheKeys}
use Rattle.hv_value.specs.View.{trees_of}
use Rattle.hv_value.specs.declared.value.Value.{Value}
use Rattle.hv_pack.specs.Writing.{trees_text, pairs_text, string_text, trees_count, pairs_count, AreWritable, PairsAreWritable}
use Rattle.hm_message.specs.Headers.{Header, IsHeaders}
use Rattle.hm_message.specs.Trees.{texts, header_pairs}
use Rattle.hm_pack.specs.Frame.{headers_written}

-- ---- headers

pub headers_text_push : (hs : List Header) (h : Header) → pairs_text (pairs (header_pairs (hs ++ h ∷ []))) ≡ pairs_text (pairs (header_pairs hs)) ++ (string_text h.0 ++ string_text h.1)
headers_text_push [] h = ap (λ (x : List ℕ). string_text h.0 ++ x) (append-nil (string_text h.1))
headers_text_push (g ∷ hs) h =
    ap (λ (x : List ℕ). string_text g.0 ++ (string_text g.1 ++ x)) (headers_text_push hs h)
    ∙ ap (λ (x : List ℕ). string_text g.0 ++ x) (sym (append_assoc (string_text g.1) (pairs_text (pairs (header_pairs hs))) (string_text h.0 ++ string_text h.1)))
    ∙ sym (append_assoc (string_text g.0) (string_text g.1 ++ pairs_text (pairs (header_pairs hs))) (string_text h.0 ++ string_text h.1))

pub headers_writable_push : (hs : List Header) (h : Header) → PairsAreWritable (pairs (header_pairs hs)) → length h.0 < 2 ^ 32 → IsUtf8 h.0 → length h.1 < 2 ^ 32 → IsUtf8 h.1 → PairsAreWritable (pairs (header_pairs (hs ++ h ∷ [])))
headers_writable_push [] h w k u l v = (k, u, (l, v), tt)
headers_writable_push (g ∷ hs) h w k u l v = (w.0, w.1, w.2, headers_writable_push hs h w.3 k u l v)

pub headers_count : (hs : List Header) → pairs_count (pairs (header_pairs hs)) ≡ length hs
headers_count [] = refl
headers_count (h ∷ hs) = ap suc (headers_count hs)

headers_keys : (hs : List Header) → keys_of (header_pairs hs) ≡ keys_of hs
headers_keys [] = refl
headers_keys (h ∷ hs) = ap (λ (ks : List (List ℕ)). h.0 ∷ ks) (headers_keys hs)

texts_only : (hs : List Header) → PairsInOrder (pairs (header_pairs hs))
texts_only [] = tt
texts_only (h ∷ hs) = (tt, texts_only hs)

pub headers_in_order : MapHasTheKeys → (hs : List Header) → IsHeaders hs → IsInOrder (headers_written hs)
headers_in_order keys hs h = (rw (keys (header_pairs hs), headers_keys hs) h, texts_only hs)

-- ---- texts

pub texts_text_push : (ss : List (List ℕ)) (s : List ℕ) → trees_text (trees (texts (ss ++ s ∷ []))) ≡ trees_text (trees (texts ss)) ++ string_text s
texts_text_push [] s = append-nil (string_text s)
texts_text_push (r ∷ ss) s = ap (λ (x : List ℕ). string_text r ++ x) (texts_text_push ss s) ∙ sym (append_assoc (string_text r) (trees_text (trees (texts ss))) (string_text s))

pub texts_writable_push : (ss : List (List ℕ)) (s : List ℕ) → AreWritable (trees (texts ss)) → length s < 2 ^ 32 → IsUtf8 s → AreWritable (trees (texts (ss ++ s ∷ [])))
texts_writable_push [] s w l u = ((l, u), tt)
texts_writable_push (r ∷ ss) s w l u = (w.0, texts_writable_push ss s w.1 l u)

pub texts_count : (ss : List (List ℕ)) → trees_count (trees (texts ss)) ≡ length ss
texts_count [] = refl
texts_count (s ∷ ss) = ap suc (texts_count ss)

pub texts_in_order : (ss : List (List ℕ)) → AllInOrder (trees (texts ss))
texts_in_order [] = tt
texts_in_order (s ∷ ss) = (tt, texts_in_order ss)

-- ---- values

pub values_count : (vs : List Value) → trees_count (trees (trees_of vs)) ≡ length vs
values_count [] = refl
values_count (v ∷ vs) = ap suc (values_count vs)
