-- What has a spelling is no deeper than there is room for, has its keys in order, and has nothing too large in it.
use Rattle.std.proofs.Common.{ℕ, zero, suc, ◌^◌, ◌<◌, ◌≤◌, List, [], ◌∷◌, ◌++◌, length, subst, arith}
use Rattle.std.specs.Int.{cast_signed}
use Rattle.std.specs.Str.{IsUtf8}
use Rattle.std.specs.List.Sorted.{IsStrictlySortedBy}
use Rattle.std.specs.BTreeMap.{insert_entry}
use Rattle.hv_value.specs.Whole.{IsWhole}
use Rattle.hv_value.specs.Tree.{Tree, Pair, trees, pairs, put_all, key_cmp, depth, depths, depths_of_pairs}
use Rattle.hv_value.specs.Order.{keys_of_pairs, IsInOrder, AllInOrder, PairsInOrder}
use Rattle.hv_value.specs.Laws.{MapHasTheKeys, KeysOfAMapAreInOrder, PairsInOrderAreTheirMap}
use Rattle.hv_pack.specs.declared.marker.Marker.{Marker}
use Rattle.hv_pack.specs.declared.marker.Marker.TheVariants.{Null, Bool as Truth, Small, Unsigned, Signed, Text, Bytes, List as ListOf, Map, Never, Fraction, Ext}
use Rattle.hv_pack.specs.declared.marker.Count.{Count}
use Rattle.hv_pack.specs.declared.marker.Count.TheVariants.{Here, Behind}
use Rattle.hv_pack.specs.declared.marker.Size.{Size}
use Rattle.hv_pack.specs.declared.marker.Size.TheVariants.{One as One1, Two, Four, Eight}
use Rattle.hv_pack.specs.Marker.{width, marker_of}
use Rattle.hv_pack.specs.Packs.{IsNumber, IsCount, IsChunk, IsKey, Spelling, NoSpelling, SpellsAll, SpellsPairs, Row, One, Packs, IsSpelling}
use Rattle.hv_pack.specs.Writing.{shortest, trees_count, pairs_count, IsWritable, AreWritable, PairsAreWritable}
use Rattle.hv_pack.proofs.Least.{AreBytes, parts, Fits, fits, number_1, number_2, number_4, number_8, pos_whole, neg_whole, signed_1, signed_2, signed_4, signed_8}
use Rattle.hv_pack.proofs.NoShorter.{along, count_of_trees, count_of_pairs, chosen, length-put_all, no_shorter}
use Rattle.hv_pack.proofs.Shortest.{is_spelling}

-- ---- numbers

unsigned_top : (size : Size) (s : List ℕ) (n : ℕ) → AreBytes s → IsNumber (width size) s n → n < 2 ^ 64
unsigned_top One1 s n b h = omega (arith, number_1 s n b h)
unsigned_top Two s n b h = omega (arith, number_2 s n b h)
unsigned_top Four s n b h = omega (arith, number_4 s n b h)
unsigned_top Eight s n b h = number_8 s n b h

signed_whole : (size : Size) (s : List ℕ) (n : ℕ) → AreBytes s → IsNumber (width size) s n → IsWhole (cast_signed (width size) n)
signed_whole One1 s n b h = signed_1 IsWhole n (number_1 s n b h) (λ k. pos_whole n (omega arith)) (λ k lt. neg_whole k (omega arith))
signed_whole Two s n b h = signed_2 IsWhole n (number_2 s n b h) (λ k. pos_whole n (omega arith)) (λ k lt. neg_whole k (omega arith))
signed_whole Four s n b h = signed_4 IsWhole n (number_4 s n b h) (λ k. pos_whole n (omega arith)) (λ k lt. neg_whole k (omega arith))
signed_whole Eight s n b h = signed_8 IsWhole n (number_8 s n b h) (λ k. pos_whole n (omega arith)) (λ k lt. neg_whole k lt)

abbrev IsNarrow : Count → Type 0
IsNarrow (Here k) = k < 32
IsNarrow (Behind Eight) = ⊥
IsNarrow (Behind size) = Unit {0}

narrow_text : (c : Count) → Fits (Text c) → IsNarrow c
narrow_text (Here k) f = f
narrow_text (Behind One1) f = tt
narrow_text (Behind Two) f = tt
narrow_text (Behind Four) f = tt
narrow_text (Behind Eight) f = f

narrow_bytes : (c : Count) → Fits (Bytes c) → IsNarrow c
narrow_bytes (Here k) f = absurd f
narrow_bytes (Behind One1) f = tt
narrow_bytes (Behind Two) f = tt
narrow_bytes (Behind Four) f = tt
narrow_bytes (Behind Eight) f = f

narrow_list : (c : Count) → Fits (ListOf c) → IsNarrow c
narrow_list (Here k) f = omega arith
narrow_list (Behind One1) f = tt
narrow_list (Behind Two) f = tt
narrow_list (Behind Four) f = tt
narrow_list (Behind Eight) f = f

narrow_map : (c : Count) → Fits (Map c) → IsNarrow c
narrow_map (Here k) f = omega arith
narrow_map (Behind One1) f = tt
narrow_map (Behind Two) f = tt
narrow_map (Behind Four) f = tt
narrow_map (Behind Eight) f = f

count_top : (c : Count) (s : List ℕ) (n : ℕ) → IsNarrow c → AreBytes s → IsCount c s n → n < 2 ^ 32
count_top (Here k) s n f b h = let e = h.1 in omega arith
count_top (Behind One1) s n f b h = omega (arith, number_1 s n b h)
count_top (Behind Two) s n f b h = omega (arith, number_2 s n b h)
count_top (Behind Four) s n f b h = number_4 s n b h
count_top (Behind Eight) s n f b h = absurd f

chunk_top : (c : Count) (s t : List ℕ) → IsNarrow c → AreBytes s → IsChunk c s t → length t < 2 ^ 32
chunk_top c s t f b h =
    let p = parts h.number t (along s (h.number ++ t) h.parts b) in
    count_top c h.number (length t) f p.0 h.count

key_top : (k s : List ℕ) → IsKey k s → AreBytes s → length k < 2 ^ 32
key_top k s h b =
    let whole = along s (h.marker ∷ h.rest) h.whole b in
    chunk_top h.len h.rest k (narrow_text h.len (subst Fits h.row (fits h.marker))) whole.1 h.chunk

-- ---- pairs that are put

abbrev Good : ℕ → Tree → Type 0
Good room t = (depth t ≤ room) × IsInOrder t × IsWritable t

abbrev GoodPair : ℕ → Pair → Type 0
GoodPair room p = (length p.0 < 2 ^ 32) × IsUtf8 p.0 × Good room p.1

abbrev GoodPairs : ℕ → List Pair → Type 0
GoodPairs room [] = Unit {0}
GoodPairs room (p ∷ ps) = GoodPair room p × GoodPairs room ps

good-insert_entry : (room : ℕ) (es : List Pair) (k : List ℕ) (t : Tree) → GoodPairs room es → GoodPair room (k, t) → GoodPairs room (insert_entry key_cmp es k t)
good-insert_entry room [] k t h g = (g, tt)
good-insert_entry room (e ∷ es) k t h g =
    chosen (GoodPairs room) (key_cmp k e.0) _ _ _ (g, h) ((h.0.0, h.0.1, g.2), h.1) (h.0, good-insert_entry room es k t h.1 g)

good-put_all : (room : ℕ) (es ps : List Pair) → GoodPairs room es → GoodPairs room ps → GoodPairs room (put_all es ps)
good-put_all room es [] h g = h
good-put_all room es (p ∷ ps) h g = good-put_all room (insert_entry key_cmp es p.0 p.1) ps (good-insert_entry room es p.0 p.1 h g.0) g.1

all_good : (room : ℕ) (ps : List Pair) → GoodPairs room ps → (depths_of_pairs (pairs ps) ≤ room) × PairsInOrder (pairs ps) × PairsAreWritable (pairs ps)
all_good room [] h = (omega arith, tt, tt)
all_good room (p ∷ ps) h =
    let g = all_good room ps h.1 in
    let t : Good room p.1 = h.0.2 in
    (omega (arith, t.0, g.0), (t.1, g.1), (h.0.0, h.0.1, t.2, g.2))

-- ---- one value

module _ (has_keys : MapHasTheKeys) (in_order : KeysOfAMapAreInOrder) (Room : Type 0) (P : Spelling) (room top : ℕ) (up : Room → room < top) (inner : (t : Tree) (s : List ℕ) → P t s → AreBytes s → Good room t) where
  trees_good : (ts : List Tree) (s : List ℕ) → SpellsAll P ts s → AreBytes s → (depths (trees ts) ≤ room) × AllInOrder (trees ts) × AreWritable (trees ts)
  trees_good [] s h b = (omega arith, tt, tt)
  trees_good (t ∷ ts) s h b =
      let p = parts h.0 h.1 (along s (h.0 ++ h.1) h.4 b) in
      let one : Good room t = inner t h.0 h.2 p.0 in
      let rest = trees_good ts h.1 h.3 p.1 in
      (omega (arith, one.0, rest.0), (one.1, rest.1), (one.2, rest.2))

  pairs_good : (ps : List Pair) (s : List ℕ) → SpellsPairs P ps s → AreBytes s → GoodPairs room ps
  pairs_good [] s h b = tt
  pairs_good (p ∷ ps) s h b =
      let k = parts h.0 (h.1 ++ h.2) (along s (h.0 ++ (h.1 ++ h.2)) h.6 b) in
      let v = parts h.1 h.2 k.1 in
      let key : IsKey p.0 h.0 = h.3 in
      ((key_top p.0 h.0 key k.0, key.utf8, inner p.1 h.1 h.4 v.0), pairs_good ps h.2 h.5 v.1)

  list_good : (c : Count) (t : Tree) (s : List ℕ) → Fits (ListOf c) → Row Room P (ListOf c) t s → AreBytes s → Good top t
  list_good c t s f h b =
      let ts = h.1 in
      let p = parts h.3 h.4 (along s (h.3 ++ h.4) h.7 b) in
      let g = trees_good ts h.4 h.6 p.1 in
      let n : trees_count (trees ts) < 2 ^ 32 = rw (count_of_trees ts) (count_top c h.3 (length ts) (narrow_list c f) p.0 h.5) in
      rw h.2 (omega (arith, g.0, up h.0), g.1, (n, g.2))

  map_good : (c : Count) (t : Tree) (s : List ℕ) → Fits (Map c) → Row Room P (Map c) t s → AreBytes s → Good top t
  map_good c t s f h b =
      let ps = h.1 in
      let put = put_all [] ps in
      let p = parts h.3 h.4 (along s (h.3 ++ h.4) h.7 b) in
      let g = all_good room put (good-put_all room [] ps tt (pairs_good ps h.4 h.6 p.1)) in
      let n : pairs_count (pairs put) < 2 ^ 32 = rw (count_of_pairs put) (omega (arith, length-put_all [] ps, count_top c h.3 (length ps) (narrow_map c f) p.0 h.5)) in
      let sorted : IsStrictlySortedBy key_cmp (keys_of_pairs (pairs put)) = rw (has_keys put) (in_order ps) in
      rw h.2 (omega (arith, g.0, up h.0), (sorted, g.1), (n, g.2))

  row_good : (m : Marker) (t : Tree) (s : List ℕ) → Fits m → Row Room P m t s → AreBytes s → Good top t
  row_good Null t s f h b = rw h.0 (omega arith, tt, tt)
  row_good (Truth x) t s f h b = rw h.0 (omega arith, tt, tt)
  row_good (Small z) t s f h b = rw h.0 (omega arith, tt, f.1)
  row_good (Unsigned size) t s f h b = rw h.1 (omega arith, tt, pos_whole h.0 (unsigned_top size s h.0 b h.2))
  row_good (Signed size) t s f h b = rw h.1 (omega arith, tt, signed_whole size s h.0 b h.2)
  row_good (Text c) t s f h b = rw h.1 (omega arith, tt, (chunk_top c s h.0 (narrow_text c f) b h.2, h.3))
  row_good (Bytes c) t s f h b = rw h.1 (omega arith, tt, chunk_top c s h.0 (narrow_bytes c f) b h.2)
  row_good (ListOf c) t s f h b = list_good c t s f h b
  row_good (Map c) t s f h b = map_good c t s f h b
  row_good Never t s f h b = absurd h
  row_good Fraction t s f h b = absurd h
  row_good Ext t s f h b = absurd h

  one_good : (t : Tree) (s : List ℕ) → One Room P t s → AreBytes s → Good top t
  one_good t s h b =
      let whole = along s (h.0 ∷ h.1) h.3 b in
      row_good (marker_of h.0) t h.1 (fits h.0) h.2 whole.1

packs_good : MapHasTheKeys → KeysOfAMapAreInOrder → (room : ℕ) (t : Tree) (s : List ℕ) → Packs room t s → AreBytes s → Good room t
packs_good keys order zero = one_good keys order ⊥ NoSpelling 0 0 (λ x. absurd x) (λ t s h b. absurd h)
packs_good keys order (suc room) = one_good keys order (Unit {0}) (Packs room) room (suc room) (λ x. omega arith) (packs_good keys order room)

good : MapHasTheKeys → KeysOfAMapAreInOrder → (t : Tree) (s : List ℕ) → IsSpelling t s → AreBytes s → Good 64 t
unfolding IsSpelling
good keys order t s h b = packs_good keys order 64 t s h b

pub shortest_spells : MapHasTheKeys → KeysOfAMapAreInOrder → PairsInOrderAreTheirMap → (t : Tree) (s : List ℕ) → IsSpelling t s → AreBytes s → IsWritable t × IsSpelling t (shortest t) × (length (shortest t) ≤ length s)
shortest_spells keys order same t s h b =
    let g = good keys order t s h b in
    (g.2, is_spelling same t g.0 g.1 g.2, no_shorter t s h b)
