-- The text of a list as values join it.
use Rattle.std.proofs.Common.{◌≡◌, ℕ, suc, ◌^◌, ◌<◌, List, [], ◌∷◌, ◌++◌, length, refl, sym, ap, ◌∙◌, append_assoc}
use Rattle.std.proofs.lemmas.List.{append-nil}
use Rattle.std.specs.Str.{IsUtf8}
use Rattle.hv_value.specs.Tree.{trees, pairs}
use Rattle.hv_value.specs.View.{tree, trees_of, entries}
use Rattle.hv_value.specs.declared.value.Value.{Value}
use Rattle.hv_pack.specs.Writing.{shortest, trees_text, pairs_text, string_text, trees_count, pairs_count, IsWritable, AreWritable, PairsAreWritable}

pub trees_text_push : (vs : List Value) (v : Value) → trees_text (trees (trees_of (vs ++ v ∷ []))) ≡ trees_text (trees (trees_of vs)) ++ shortest (tree v)
trees_text_push [] v = append-nil (shortest (tree v))
trees_text_push (w ∷ vs) v = ap (λ (x : List ℕ). shortest (tree w) ++ x) (trees_text_push vs v) ∙ sym (append_assoc (shortest (tree w)) (trees_text (trees (trees_of vs))) (shortest (tree v)))

pub AreWritable_push : (vs : List Value) (v : Value) → AreWritable (trees (trees_of vs)) → IsWritable (tree v) → AreWritable (trees (trees_of (vs ++ v ∷ [])))
AreWritable_push [] v h g = (g, tt)
AreWritable_push (w ∷ vs) v h g = (h.0, AreWritable_push vs v h.1 g)

pub pairs_text_push : (ps : List (List ℕ × Value)) (p : List ℕ × Value) → pairs_text (pairs (entries (ps ++ p ∷ []))) ≡ pairs_text (pairs (entries ps)) ++ (string_text p.0 ++ shortest (tree p.1))
pairs_text_push [] p = ap (λ (x : List ℕ). string_text p.0 ++ x) (append-nil (shortest (tree p.1)))
pairs_text_push (q ∷ ps) p =
    ap (λ (x : List ℕ). string_text q.0 ++ (shortest (tree q.1) ++ x)) (pairs_text_push ps p)
    ∙ ap (λ (x : List ℕ). string_text q.0 ++ x) (sym (append_assoc (shortest (tree q.1)) (pairs_text (pairs (entries ps))) (string_text p.0 ++ shortest (tree p.1))))
    ∙ sym (append_assoc (string_text q.0) (shortest (tree q.1) ++ pairs_text (pairs (entries ps))) (string_text p.0 ++ shortest (tree p.1)))

pub PairsAreWritable_push : (ps : List (List ℕ × Value)) (p : List ℕ × Value) → PairsAreWritable (pairs (entries ps)) → length p.0 < 2 ^ 32 → IsUtf8 p.0 → IsWritable (tree p.1) → PairsAreWritable (pairs (entries (ps ++ p ∷ [])))
PairsAreWritable_push [] p h k u g = (k, u, g, tt)
PairsAreWritable_push (q ∷ ps) p h k u g = (h.0, h.1, h.2, PairsAreWritable_push ps p h.3 k u g)

pub trees_count_is : (vs : List Value) → trees_count (trees (trees_of vs)) ≡ length vs
trees_count_is [] = refl
trees_count_is (v ∷ vs) = ap suc (trees_count_is vs)

pub pairs_count_is : (ps : List (List ℕ × Value)) → pairs_count (pairs (entries ps)) ≡ length ps
pairs_count_is [] = refl
pairs_count_is (p ∷ ps) = ap suc (pairs_count_is ps)
