-- The keys of pairs that are put in one after another are in order, and the values no deeper than they were.
use Rattle.std.proofs.Common.{◌≡◌, ℕ, ◌≤◌, max, List, [], ◌∷◌, refl, ap, ◌∙◌, arith}
use Rattle.std.specs.declared.cmp.Ordering.{Ordering}
use Rattle.std.specs.declared.cmp.Ordering.TheVariants.{Less, Equal, Greater}
use Rattle.std.specs.Ordering.{match_ordering, ordering_reverse}
use Rattle.std.specs.List.{AllByRecursion}
use Rattle.std.specs.List.Sorted.{IsStrictlySortedBy}
use Rattle.std.specs.Map.{keys_of}
use Rattle.std.specs.BTreeMap.{insert_entry}
use Rattle.std.proofs.lemmas.Cmp.{nat_list_cmp_total}
use Rattle.hv_value.specs.Laws.{KeysOfAMapAreInOrder}
use Rattle.hv_value.specs.Tree.{Tree, Pair, depth_of_values, key_cmp, put_all}
use Rattle.hv_value.proofs.Puts.{depth-insert_entry}

abbrev Above : List ℕ → List (List ℕ) → Type 0
Above k ks = AllByRecursion (λ y. key_cmp k y ≡ Less) ks

one_of : (P : List Pair → Type 0) (o : Ordering) (a b c : List Pair) → P a → P b → P c → P (match_ordering o a b c)
one_of P Less a b c p q r = p
one_of P Equal a b c p q r = q
one_of P Greater a b c p q r = r

Above-insert_entry : (x : List ℕ) (es : List Pair) (k : List ℕ) (t : Tree) → Above x (keys_of es) → key_cmp x k ≡ Less → Above x (keys_of (insert_entry key_cmp es k t))
Above-insert_entry x [] k t h l = (l, tt)
Above-insert_entry x (e ∷ es) k t h l =
    one_of (λ ps. Above x (keys_of ps)) (key_cmp k e.0) _ _ _ (l, h) h (h.0, Above-insert_entry x es k t h.1 l)

Above-trans : (k x : List ℕ) (ks : List (List ℕ)) → key_cmp k x ≡ Less → Above x ks → Above k ks
Above-trans k x [] l h = tt
Above-trans k x (y ∷ ys) l h = (nat_list_cmp_total.trans k x y l h.0, Above-trans k x ys l h.1)

abbrev AreSorted : List Pair → Type 0
AreSorted ps = IsStrictlySortedBy key_cmp (keys_of ps)

sorted_step : (e : Pair) (es : List Pair) (k : List ℕ) (t : Tree) → AreSorted (e ∷ es) → AreSorted (insert_entry key_cmp es k t) → (o : Ordering) → key_cmp k e.0 ≡ o → AreSorted (match_ordering o ((k, t) ∷ e ∷ es) ((e.0, t) ∷ es) (e ∷ insert_entry key_cmp es k t))
unfolding IsStrictlySortedBy
sorted_step e es k t h rest Less q = ((q, Above-trans k e.0 (keys_of es) q h.0), h)
sorted_step e es k t h rest Equal q = h
sorted_step e es k t h rest Greater q = (Above-insert_entry e.0 es k t h.0 (nat_list_cmp_total.antisymm e.0 k ∙ ap ordering_reverse q), rest)

sorted_tail : (e : Pair) (es : List Pair) → AreSorted (e ∷ es) → AreSorted es
unfolding IsStrictlySortedBy
sorted_tail e es h = h.1

sorted_one : (p : Pair) → AreSorted (p ∷ [])
unfolding IsStrictlySortedBy
sorted_one p = (tt, tt)

sorted_none : AreSorted []
unfolding IsStrictlySortedBy
sorted_none = tt

sorted-insert_entry : (es : List Pair) (k : List ℕ) (t : Tree) → AreSorted es → AreSorted (insert_entry key_cmp es k t)
sorted-insert_entry [] k t h = sorted_one (k, t)
sorted-insert_entry (e ∷ es) k t h = sorted_step e es k t h (sorted-insert_entry es k t (sorted_tail e es h)) (key_cmp k e.0) refl

sorted-put_all : (es ps : List Pair) → AreSorted es → AreSorted (put_all es ps)
sorted-put_all es [] h = h
sorted-put_all es (p ∷ ps) h = sorted-put_all (insert_entry key_cmp es p.0 p.1) ps (sorted-insert_entry es p.0 p.1 h)

pub keys_in_order : KeysOfAMapAreInOrder
keys_in_order ps = sorted-put_all [] ps sorted_none

-- ---- depths

pub depth-put_all : (es ps : List Pair) → depth_of_values (put_all es ps) ≤ max (depth_of_values es) (depth_of_values ps)
depth-put_all es [] = omega arith
depth-put_all es (p ∷ ps) = omega (arith, depth-put_all (insert_entry key_cmp es p.0 p.1) ps, depth-insert_entry es p.0 p.1)
