-- The shortest spelling is a spelling.
use Rattle.std.proofs.Common.{◌≡◌, ℕ, zero, suc, ◌-◌, ◌^◌, ◌<◌, ◌≤◌, Bool, true, false, ltb, List, [], ◌∷◌, ◌++◌, length, refl, sym, ap, subst, ◌∙◌, arith, pos, negsuc, ℤ}
use Rattle.std.specs.Int.{w8, w16, w32, w64, to_be_bytes, cast_signed}
use Rattle.std.specs.Str.{IsUtf8}
use Rattle.std.specs.List.Sorted.{IsStrictlySortedBy}
use Rattle.std.proofs.lemmas.Bool.{ltb-true}
use Rattle.std.proofs.lemmas.Int.{ints}
use Rattle.std.proofs.lemmas.Bool.Decides.{nat_tests}
use Rattle.hv_value.specs.Tree.{Tree, null, boolean, int, text, bytes, list, map, Trees, no_trees, more, Pairs, no_pairs, pair, Pair, trees, pairs, map_of, key_cmp, depth, depths, depths_of_pairs}
use Rattle.std.specs.Map.{keys_of}
use Rattle.hv_value.specs.Order.{keys_of_pairs, IsInOrder, AllInOrder, PairsInOrder}
use Rattle.hv_value.specs.Laws.{PairsInOrderAreTheirMap}
use Rattle.hv_value.specs.Whole.{IsWhole}
use Rattle.hv_pack.specs.declared.marker.Marker.{Marker}
use Rattle.hv_pack.specs.declared.marker.Marker.TheVariants.{Null, Bool as Truth, Small, Unsigned, Signed, Text, Bytes, List as ListOf, Map}
use Rattle.hv_pack.specs.declared.marker.Size.TheVariants.{One as One1, Two, Four, Eight}
use Rattle.hv_pack.specs.Marker.{marker_of}
use Rattle.hv_pack.specs.Packs.{IsCount, IsKey, Spelling, SpellsAll, SpellsPairs, Row, One, Packs, IsSpelling}
use Rattle.hv_pack.specs.Writing.{shortest, trees_text, pairs_text, string_text, bytes_head, list_head, map_head, int_text, bool_text, trees_count, pairs_count, IsWritable, AreWritable, PairsAreWritable}
use Rattle.hv_pack.proofs.Heads.{pick, number_1, number_2, number_4, number_8, text_head-is, bytes_head-is, list_head-is, map_head-is}
use Rattle.hv_pack.specs.Formats.{NIL, FALSE, TRUE, UINT_8, UINT_16, UINT_32, UINT_64, INT_8, INT_16, INT_32, INT_64}

-- ---- pairs in order are put where they are

abbrev pub list_of : Trees → List Tree
list_of no_trees = []
list_of (more t ts) = t ∷ list_of ts

abbrev pub pairs_list : Pairs → List Pair
pairs_list no_pairs = []
pairs_list (pair k t ps) = (k, t) ∷ pairs_list ps

pub pairs-pairs_list : (ps : Pairs) → pairs (pairs_list ps) ≡ ps
pairs-pairs_list no_pairs = refl
pairs-pairs_list (pair k t ps) = ap (λ (x : Pairs). pair k t x) (pairs-pairs_list ps)

keys_of-pairs_list : (ps : Pairs) → keys_of (pairs_list ps) ≡ keys_of_pairs ps
keys_of-pairs_list no_pairs = refl
keys_of-pairs_list (pair k t ps) = ap (λ (x : List (List ℕ)). k ∷ x) (keys_of-pairs_list ps)

pub map-sorted : PairsInOrderAreTheirMap → (ps : Pairs) → IsStrictlySortedBy key_cmp (keys_of_pairs ps) → map ps ≡ map_of (pairs_list ps)
map-sorted law ps h =
    let sorted : IsStrictlySortedBy key_cmp (keys_of (pairs_list ps)) = rw (keys_of-pairs_list ps) h in
    ap map (sym (pairs-pairs_list ps)) ∙ sym (law (pairs_list ps) sorted)

-- ---- whole numbers

small_pos : (n : ℕ) → n < 128 → marker_of n ≡ Small (pos n)
unfolding marker_of
small_pos n lt = grind (arith, nat_tests)

small_neg : (k : ℕ) → k < 32 → marker_of (255 - k) ≡ Small (negsuc k)
unfolding marker_of
small_neg k lt = grind (arith, nat_tests)

twos_1 : (k : ℕ) → k < 2 ^ 7 → negsuc k ≡ cast_signed w8 (2 ^ 8 - 1 - k)
twos_1 k lt = grind (arith, nat_tests)

twos_2 : (k : ℕ) → k < 2 ^ 15 → negsuc k ≡ cast_signed w16 (2 ^ 16 - 1 - k)
twos_2 k lt = grind (arith, nat_tests)

twos_4 : (k : ℕ) → k < 2 ^ 31 → negsuc k ≡ cast_signed w32 (2 ^ 32 - 1 - k)
twos_4 k lt = grind (arith, nat_tests)

twos_8 : (k : ℕ) → k < 2 ^ 63 → negsuc k ≡ cast_signed w64 (2 ^ 64 - 1 - k)
twos_8 k lt = grind (arith, nat_tests)

pos_top : (n : ℕ) → IsWhole (pos n) → n < 2 ^ 64
pos_top n h = let k = h.1 in omega (arith, ints)

neg_top : (k : ℕ) → IsWhole (negsuc k) → k < 2 ^ 63
neg_top n h = let k = h.0 in omega (arith, ints)

-- ---- one value

-- a marker of this row, and the bytes behind it
made : (Room : Type 0) (P : Spelling) (t : Tree) (m : ℕ) (x : Marker) (s : List ℕ) → marker_of m ≡ x → Row Room P x t s → One Room P t (m ∷ s)
made Room P t m x s e h = (m, s, subst (λ (y : Marker). Row Room P y t s) (sym e) h, refl)

module _ (Room : Type 0) (P : Spelling) where
  int_packs : (z : ℤ) → IsWhole z → One Room P (int z) (int_text z)
  unfolding int_text marker_of
  int_packs (pos n) h =
      let Q : List ℕ → Type 0 = One Room P (int (pos n)) in
      let top : n < 2 ^ 64 = pos_top n h in
      pick Q (ltb n 128) _ _ (λ e. made Room P (int (pos n)) n (Small (pos n)) [] (small_pos n (ltb-true _ _ e)) (refl, refl))
      (λ e. pick Q (ltb n (2 ^ 8)) _ _ (λ e. made Room P (int (pos n)) UINT_8 (Unsigned One1) (to_be_bytes w8 n) refl (n, refl, number_1 n (ltb-true _ _ e)))
      (λ e. pick Q (ltb n (2 ^ 16)) _ _ (λ e. made Room P (int (pos n)) UINT_16 (Unsigned Two) (to_be_bytes w16 n) refl (n, refl, number_2 n (ltb-true _ _ e)))
      (λ e. pick Q (ltb n (2 ^ 32)) _ _ (λ e. made Room P (int (pos n)) UINT_32 (Unsigned Four) (to_be_bytes w32 n) refl (n, refl, number_4 n (ltb-true _ _ e)))
      (λ e. made Room P (int (pos n)) UINT_64 (Unsigned Eight) (to_be_bytes w64 n) refl (n, refl, number_8 n top)))))
  int_packs (negsuc k) h =
      let Q : List ℕ → Type 0 = One Room P (int (negsuc k)) in
      let top : k < 2 ^ 63 = neg_top k h in
      pick Q (ltb k 32) _ _ (λ e. made Room P (int (negsuc k)) (255 - k) (Small (negsuc k)) [] (small_neg k (ltb-true _ _ e)) (refl, refl))
      (λ e. pick Q (ltb k (2 ^ 7)) _ _ (λ e. let lt = ltb-true _ _ e in made Room P (int (negsuc k)) INT_8 (Signed One1) (to_be_bytes w8 (2 ^ 8 - 1 - k)) refl (2 ^ 8 - 1 - k, ap int (twos_1 k lt), number_1 _ (omega arith)))
      (λ e. pick Q (ltb k (2 ^ 15)) _ _ (λ e. let lt = ltb-true _ _ e in made Room P (int (negsuc k)) INT_16 (Signed Two) (to_be_bytes w16 (2 ^ 16 - 1 - k)) refl (2 ^ 16 - 1 - k, ap int (twos_2 k lt), number_2 _ (omega arith)))
      (λ e. pick Q (ltb k (2 ^ 31)) _ _ (λ e. let lt = ltb-true _ _ e in made Room P (int (negsuc k)) INT_32 (Signed Four) (to_be_bytes w32 (2 ^ 32 - 1 - k)) refl (2 ^ 32 - 1 - k, ap int (twos_4 k lt), number_4 _ (omega arith)))
      (λ e. made Room P (int (negsuc k)) INT_64 (Signed Eight) (to_be_bytes w64 (2 ^ 64 - 1 - k)) refl (2 ^ 64 - 1 - k, ap int (twos_8 k top), number_8 _ (omega arith))))))

  bool_packs : (b : Bool) → One Room P (boolean b) (bool_text b)
  unfolding marker_of
  bool_packs true = made Room P (boolean true) TRUE (Truth true) [] refl (refl, refl)
  bool_packs false = made Room P (boolean false) FALSE (Truth false) [] refl (refl, refl)

  null_packs : One Room P null (NIL ∷ [])
  unfolding marker_of
  null_packs = made Room P null NIL Null [] refl (refl, refl)

  text_packs : (s : List ℕ) → length s < 2 ^ 32 → IsUtf8 s → One Room P (text s) (string_text s)
  text_packs s lt utf8 =
      let h = text_head-is (length s) lt in
      rw h.whole (made Room P (text s) h.marker (Text h.count) (h.number ++ s) h.is (s, refl, record { number = h.number; count = h.holds; parts = refl }, utf8))

  bytes_packs : (s : List ℕ) → length s < 2 ^ 32 → One Room P (bytes s) (bytes_head (length s) ++ s)
  bytes_packs s lt =
      let h = bytes_head-is (length s) lt in
      rw h.whole (made Room P (bytes s) h.marker (Bytes h.count) (h.number ++ s) h.is (s, refl, record { number = h.number; count = h.holds; parts = refl }))

key_packs : (k : List ℕ) → length k < 2 ^ 32 → IsUtf8 k → IsKey k (string_text k)
key_packs k lt utf8 =
    let h = text_head-is (length k) lt in
    record { marker = h.marker; len = h.count; row = h.is; rest = h.number ++ k; whole = ap (λ (x : List ℕ). x ++ k) h.whole; chunk = record { number = h.number; count = h.holds; parts = refl }; utf8 = utf8 }

leaf : (room : ℕ) (t : Tree) (s : List ℕ) → ((Room : Type 0) (P : Spelling) → One Room P t s) → Packs room t s
leaf zero t s h = h _ _
leaf (suc room) t s h = h _ _

trees-list_of : (ts : Trees) → trees (list_of ts) ≡ ts
trees-list_of no_trees = refl
trees-list_of (more t ts) = ap (λ (x : Trees). more t x) (trees-list_of ts)

length-list_of : (ts : Trees) → length (list_of ts) ≡ trees_count ts
length-list_of no_trees = refl
length-list_of (more t ts) = ap suc (length-list_of ts)

length-pairs_list : (ps : Pairs) → length (pairs_list ps) ≡ pairs_count ps
length-pairs_list no_pairs = refl
length-pairs_list (pair k t ps) = ap suc (length-pairs_list ps)

list_packs : (room : ℕ) (ts : Trees) → trees_count ts < 2 ^ 32 → SpellsAll (Packs room) (list_of ts) (trees_text ts) → Packs (suc room) (list ts) (list_head (trees_count ts) ++ trees_text ts)
list_packs room ts lt all =
    let h = list_head-is (trees_count ts) lt in
    rw h.whole (made (Unit {0}) (Packs room) (list ts) h.marker (ListOf h.count) (h.number ++ trees_text ts) h.is
    (tt, list_of ts, ap list (sym (trees-list_of ts)), h.number, trees_text ts, subst (λ (n : ℕ). IsCount h.count h.number n) (sym (length-list_of ts)) h.holds, all, refl))

map_packs : PairsInOrderAreTheirMap → (room : ℕ) (ps : Pairs) → pairs_count ps < 2 ^ 32 → IsStrictlySortedBy key_cmp (keys_of_pairs ps) → SpellsPairs (Packs room) (pairs_list ps) (pairs_text ps) → Packs (suc room) (map ps) (map_head (pairs_count ps) ++ pairs_text ps)
map_packs law room ps lt sorted all =
    let h = map_head-is (pairs_count ps) lt in
    rw h.whole (made (Unit {0}) (Packs room) (map ps) h.marker (Map h.count) (h.number ++ pairs_text ps) h.is
    (tt, pairs_list ps, map-sorted law ps sorted, h.number, pairs_text ps, subst (λ (n : ℕ). IsCount h.count h.number n) (sym (length-pairs_list ps)) h.holds, all, refl))

mutual
  pub shortest_packs : PairsInOrderAreTheirMap → (t : Tree) (room : ℕ) → depth t ≤ room → IsInOrder t → IsWritable t → Packs room t (shortest t)
  shortest_packs law null room deep o h = leaf room _ _ null_packs
  shortest_packs law (boolean b) room deep o h = leaf room _ _ (λ Room P. bool_packs Room P b)
  shortest_packs law (int z) room deep o h = leaf room _ _ (λ Room P. int_packs Room P z h)
  shortest_packs law (text s) room deep o h = leaf room _ _ (λ Room P. text_packs Room P s h.0 h.1)
  shortest_packs law (bytes s) room deep o h = leaf room _ _ (λ Room P. bytes_packs Room P s h)
  shortest_packs law (list ts) zero deep o h = absurd (omega arith)
  shortest_packs law (list ts) (suc room) deep o h = list_packs room ts h.0 (trees_pack law ts room (omega arith) o h.1)
  shortest_packs law (map ps) zero deep o h = absurd (omega arith)
  shortest_packs law (map ps) (suc room) deep o h = map_packs law room ps h.0 o.0 (pairs_pack law ps room (omega arith) o.1 h.1)

  pub trees_pack : PairsInOrderAreTheirMap → (ts : Trees) (room : ℕ) → depths ts ≤ room → AllInOrder ts → AreWritable ts → SpellsAll (Packs room) (list_of ts) (trees_text ts)
  trees_pack law no_trees room deep o h = refl
  trees_pack law (more t ts) room deep o h = (shortest t, trees_text ts, shortest_packs law t room (omega arith) o.0 h.0, trees_pack law ts room (omega arith) o.1 h.1, refl)

  pub pairs_pack : PairsInOrderAreTheirMap → (ps : Pairs) (room : ℕ) → depths_of_pairs ps ≤ room → PairsInOrder ps → PairsAreWritable ps → SpellsPairs (Packs room) (pairs_list ps) (pairs_text ps)
  pairs_pack law no_pairs room deep o h = refl
  pairs_pack law (pair k t ps) room deep o h = (string_text k, shortest t, pairs_text ps, key_packs k h.0 h.1, shortest_packs law t room (omega arith) o.0 h.2, pairs_pack law ps room (omega arith) o.1 h.3, refl)

pub is_spelling : PairsInOrderAreTheirMap → (t : Tree) → depth t ≤ 64 → IsInOrder t → IsWritable t → IsSpelling t (shortest t)
unfolding IsSpelling
is_spelling law t deep o h = shortest_packs law t 64 deep o h
