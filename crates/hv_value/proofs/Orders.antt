-- The order of keys, as values join a list, and in an image; and pairs in order are their own map.
use Rattle.std.proofs.Common.{◌≡◌, ℕ, List, [], ◌∷◌, ◌++◌, refl, sym, ap, subst, ◌∙◌, append_assoc}
use Rattle.std.specs.declared.cmp.Ordering.TheVariants.{Less, Greater}
use Rattle.std.specs.Ordering.{ordering_reverse}
use Rattle.std.specs.List.{AllByRecursion}
use Rattle.std.specs.List.Sorted.{IsStrictlySortedBy}
use Rattle.std.specs.BTreeMap.{insert_entry}
use Rattle.std.specs.Map.{keys_of}
use Rattle.std.proofs.lemmas.Cmp.{nat_list_cmp_total}
use Rattle.std.proofs.lemmas.List.{append-nil}
use Rattle.hv_value.specs.Tree.{Tree, null, boolean, int, text, bytes, list, map, Trees, no_trees, more, Pairs, no_pairs, pair, Pair, trees, pairs, key_cmp, put_all, map_of}
use Rattle.hv_value.specs.View.{tree, trees_of, entries}
use Rattle.hv_value.specs.Order.{keys_of_pairs, IsInOrder, AllInOrder, PairsInOrder}
use Rattle.hv_value.specs.Image.{image, trees_image, pairs_image}
use Rattle.hv_value.specs.declared.value.Value.{Value}

pub AllInOrder-push : (vs : List Value) (v : Value) → AllInOrder (trees (trees_of vs)) → IsInOrder (tree v) → AllInOrder (trees (trees_of (vs ++ v ∷ [])))
AllInOrder-push [] v h g = (g, tt)
AllInOrder-push (w ∷ vs) v h g = (h.0, AllInOrder-push vs v h.1 g)

pub PairsInOrder-push : (ps : List (List ℕ × Value)) (p : List ℕ × Value) → PairsInOrder (pairs (entries ps)) → IsInOrder (tree p.1) → PairsInOrder (pairs (entries (ps ++ p ∷ [])))
PairsInOrder-push [] p h g = (g, tt)
PairsInOrder-push (q ∷ ps) p h g = (h.0, PairsInOrder-push ps p h.1 g)

pub keys_of_pairs-pairs : (ps : List Pair) → keys_of_pairs (pairs ps) ≡ keys_of ps
keys_of_pairs-pairs [] = refl
keys_of_pairs-pairs (p ∷ ps) = ap (λ (ks : List (List ℕ)). p.0 ∷ ks) (keys_of_pairs-pairs ps)

-- ---- images

pub keys-image : (ps : Pairs) → keys_of_pairs (pairs_image ps) ≡ keys_of_pairs ps
keys-image no_pairs = refl
keys-image (pair k t ps) = ap (λ (ks : List (List ℕ)). k ∷ ks) (keys-image ps)

mutual
  pub IsInOrder-image : (t : Tree) → IsInOrder t → IsInOrder (image t)
  IsInOrder-image null h = tt
  IsInOrder-image (boolean b) h = tt
  IsInOrder-image (int z) h = tt
  IsInOrder-image (text s) h = tt
  IsInOrder-image (bytes s) h = tt
  IsInOrder-image (list ts) h = AllInOrder-image ts h
  IsInOrder-image (map ps) h = (rw (keys-image ps) h.0, PairsInOrder-image ps h.1)

  pub AllInOrder-image : (ts : Trees) → AllInOrder ts → AllInOrder (trees_image ts)
  AllInOrder-image no_trees h = tt
  AllInOrder-image (more t ts) h = (IsInOrder-image t h.0, AllInOrder-image ts h.1)

  pub PairsInOrder-image : (ps : Pairs) → PairsInOrder ps → PairsInOrder (pairs_image ps)
  PairsInOrder-image no_pairs h = tt
  PairsInOrder-image (pair k t ps) h = (IsInOrder-image t h.0, PairsInOrder-image ps h.1)

-- ---- pairs whose keys are in order

below : (first : Pair) (es : List Pair) (e : Pair) (left : List Pair) → AllByRecursion (λ y. key_cmp first.0 y ≡ Less) (keys_of (es ++ e ∷ left)) → key_cmp first.0 e.0 ≡ Less
below first [] e left h = h.0
below first (x ∷ es) e left h = below first es e left h.1

-- the key of a pair that comes later is above that of the first
pub above : (first : Pair) (es : List Pair) (e : Pair) (left : List Pair) → AllByRecursion (λ y. key_cmp first.0 y ≡ Less) (keys_of (es ++ e ∷ left)) → key_cmp e.0 first.0 ≡ Greater
above first es e left h = nat_list_cmp_total.antisymm e.0 first.0 ∙ ap ordering_reverse (below first es e left h)

insert_entry-last : (done : List Pair) (e : Pair) (left : List Pair) → IsStrictlySortedBy key_cmp (keys_of (done ++ e ∷ left)) → insert_entry key_cmp done e.0 e.1 ≡ done ++ e ∷ []
unfolding IsStrictlySortedBy
insert_entry-last [] e left h = refl
insert_entry-last (first ∷ done) e left h = rw (above first done e left h.0) (ap (λ (x : List Pair). first ∷ x) (insert_entry-last done e left h.1))

pub put_all-sorted : (done left : List Pair) → IsStrictlySortedBy key_cmp (keys_of (done ++ left)) → put_all done left ≡ done ++ left
put_all-sorted done [] h = sym (append-nil done)
put_all-sorted done (e ∷ left) h =
    let all : (done ++ e ∷ []) ++ left ≡ done ++ e ∷ left = append_assoc done (e ∷ []) left in
    rw (insert_entry-last done e left h) (put_all-sorted (done ++ e ∷ []) left (subst (λ (x : List Pair). IsStrictlySortedBy key_cmp (keys_of x)) (sym all) h) ∙ all)

-- pairs in order are their own map
pub map_of-sorted : (ps : List Pair) → IsStrictlySortedBy key_cmp (keys_of ps) → map_of ps ≡ map (pairs ps)
map_of-sorted ps h = ap map (ap pairs (put_all-sorted [] ps h))
