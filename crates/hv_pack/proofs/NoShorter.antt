-- No spelling of a value is shorter than the shortest.
use Rattle.std.proofs.Common.{◌≡◌, ℕ, zero, suc, ◌+◌, ◌≤◌, true, false, List, [], ◌∷◌, ◌++◌, length, refl, ap, subst, arith}
use Rattle.std.specs.declared.cmp.Ordering.{Ordering}
use Rattle.std.specs.declared.cmp.Ordering.TheVariants.{Less, Equal, Greater}
use Rattle.std.specs.Ordering.{match_ordering}
use Rattle.std.specs.BTreeMap.{insert_entry}
use Rattle.std.proofs.lemmas.List.{length-append}
use Rattle.hv_value.specs.Tree.{Tree, bytes, Pair, trees, pairs, put_all, key_cmp}
use Rattle.hv_pack.specs.declared.marker.Marker.{Marker}
use Rattle.hv_pack.specs.declared.marker.Marker.TheVariants.{Null, Bool as Truth, Small, Unsigned, Signed, Text, Bytes, List as ListOf, Map, Never, Fraction, Ext}
use Rattle.hv_pack.specs.declared.marker.Count.{Count}
use Rattle.hv_pack.specs.Marker.{marker_of}
use Rattle.hv_pack.specs.Packs.{IsChunk, IsKey, Spelling, NoSpelling, SpellsAll, SpellsPairs, Row, One, Packs, IsSpelling}
use Rattle.hv_pack.specs.Writing.{shortest, trees_text, pairs_text, string_text, text_head, bytes_head, list_head, map_head, trees_count, pairs_count}
use Rattle.hv_pack.proofs.Least.{AreBytes, parts, Fits, fits, unsigned_least, signed_least, text_least, bytes_least, list_least, map_least}

abbrev IsLeast : Spelling → Type 0
IsLeast P = (t : Tree) (s : List ℕ) → P t s → AreBytes s → length (shortest t) ≤ length s

pub along : (s t : List ℕ) → s ≡ t → AreBytes s → AreBytes t
along s t e h = subst AreBytes e h

-- ---- texts, bytes and keys

text_chunk : (c : Count) (s t : List ℕ) → Fits (Text c) → AreBytes s → IsChunk c s t → length (string_text t) ≤ 1 + length s
text_chunk c s t f b h =
    let p = parts h.number t (along s (h.number ++ t) h.parts b) in
    omega (arith, text_least c h.number (length t) f p.0 h.count, ap length h.parts, length-append h.number t, length-append (text_head (length t)) t)

bytes_chunk : (c : Count) (s t : List ℕ) → Fits (Bytes c) → AreBytes s → IsChunk c s t → length (shortest (bytes t)) ≤ 1 + length s
bytes_chunk c s t f b h =
    let p = parts h.number t (along s (h.number ++ t) h.parts b) in
    omega (arith, bytes_least c h.number (length t) f p.0 h.count, ap length h.parts, length-append h.number t, length-append (bytes_head (length t)) t)

key_least : (k s : List ℕ) → IsKey k s → AreBytes s → length (string_text k) ≤ length s
key_least k s h b =
    let whole = along s (h.marker ∷ h.rest) h.whole b in
    omega (arith, text_chunk h.len h.rest k (subst Fits h.row (fits h.marker)) whole.1 h.chunk, ap length h.whole)

-- ---- lists

pub count_of_trees : (ts : List Tree) → trees_count (trees ts) ≡ length ts
count_of_trees [] = refl
count_of_trees (t ∷ ts) = ap suc (count_of_trees ts)

all_least : (P : Spelling) → IsLeast P → (ts : List Tree) (s : List ℕ) → SpellsAll P ts s → AreBytes s → length (trees_text (trees ts)) ≤ length s
all_least P least [] s h b = omega arith
all_least P least (t ∷ ts) s h b =
    let p = parts h.0 h.1 (along s (h.0 ++ h.1) h.4 b) in
    omega (arith, least t h.0 h.2 p.0, all_least P least ts h.1 h.3 p.1, ap length h.4, length-append h.0 h.1, length-append (shortest t) (trees_text (trees ts)))

-- ---- maps: no pair that is put takes more than it takes itself

abbrev total : List Pair → ℕ
total [] = 0
total (p ∷ ps) = length (string_text p.0) + length (shortest p.1) + total ps

length-pairs_text : (ps : List Pair) → length (pairs_text (pairs ps)) ≡ total ps
length-pairs_text [] = refl
length-pairs_text (p ∷ ps) =
    omega (arith, length-append (string_text p.0) (shortest p.1 ++ pairs_text (pairs ps)), length-append (shortest p.1) (pairs_text (pairs ps)), length-pairs_text ps)

pub count_of_pairs : (ps : List Pair) → pairs_count (pairs ps) ≡ length ps
count_of_pairs [] = refl
count_of_pairs (p ∷ ps) = ap suc (count_of_pairs ps)

pub chosen : (P : List Pair → Type 0) (o : Ordering) (a b c : List Pair) → P a → P b → P c → P (match_ordering o a b c)
chosen P Less a b c p q r = p
chosen P Equal a b c p q r = q
chosen P Greater a b c p q r = r

total-insert_entry : (es : List Pair) (k : List ℕ) (t : Tree) → total (insert_entry key_cmp es k t) ≤ total es + (length (string_text k) + length (shortest t))
total-insert_entry [] k t = omega arith
total-insert_entry (e ∷ es) k t = chosen (λ ps. total ps ≤ total (e ∷ es) + (length (string_text k) + length (shortest t))) (key_cmp k e.0) _ _ _ (omega arith) (omega arith) (omega (arith, total-insert_entry es k t))

length-insert_entry : (es : List Pair) (k : List ℕ) (t : Tree) → length (insert_entry key_cmp es k t) ≤ suc (length es)
length-insert_entry [] k t = omega arith
length-insert_entry (e ∷ es) k t = chosen (λ ps. length ps ≤ suc (length (e ∷ es))) (key_cmp k e.0) _ _ _ (omega arith) (omega arith) (omega (arith, length-insert_entry es k t))

total-put_all : (es ps : List Pair) → total (put_all es ps) ≤ total es + total ps
total-put_all es [] = omega arith
total-put_all es (p ∷ ps) = omega (arith, total-put_all (insert_entry key_cmp es p.0 p.1) ps, total-insert_entry es p.0 p.1)

pub length-put_all : (es ps : List Pair) → length (put_all es ps) ≤ length es + length ps
length-put_all es [] = omega arith
length-put_all es (p ∷ ps) = omega (arith, length-put_all (insert_entry key_cmp es p.0 p.1) ps, length-insert_entry es p.0 p.1)

pairs_least : (P : Spelling) → IsLeast P → (ps : List Pair) (s : List ℕ) → SpellsPairs P ps s → AreBytes s → total ps ≤ length s
pairs_least P least [] s h b = omega arith
pairs_least P least (p ∷ ps) s h b =
    let k = parts h.0 (h.1 ++ h.2) (along s (h.0 ++ (h.1 ++ h.2)) h.6 b) in
    let v = parts h.1 h.2 k.1 in
    omega (arith, key_least p.0 h.0 h.3 k.0, least p.1 h.1 h.4 v.0, pairs_least P least ps h.2 h.5 v.1, ap length h.6, length-append h.0 (h.1 ++ h.2), length-append h.1 h.2)

-- ---- one value

module _ (Room : Type 0) (P : Spelling) (least : IsLeast P) where
  list_row : (c : Count) (t : Tree) (s : List ℕ) → Fits (ListOf c) → Row Room P (ListOf c) t s → AreBytes s → length (shortest t) ≤ 1 + length s
  list_row c t s f h b =
      let ts = h.1 in
      let p = parts h.3 h.4 (along s (h.3 ++ h.4) h.7 b) in
      let head : length (list_head (trees_count (trees ts))) ≤ 1 + length h.3 = rw (count_of_trees ts) (list_least c h.3 (length ts) f p.0 h.5) in
      let all = all_least P least ts h.4 h.6 p.1 in
      rw h.2 (omega (arith, head, all, ap length h.7, length-append h.3 h.4, length-append (list_head (trees_count (trees ts))) (trees_text (trees ts))))

  map_row : (c : Count) (t : Tree) (s : List ℕ) → Fits (Map c) → Row Room P (Map c) t s → AreBytes s → length (shortest t) ≤ 1 + length s
  map_row c t s f h b =
      let ps = h.1 in
      let put = put_all [] ps in
      let p = parts h.3 h.4 (along s (h.3 ++ h.4) h.7 b) in
      let fewer : length put ≤ length ps = omega (arith, length-put_all [] ps) in
      let head : length (map_head (pairs_count (pairs put))) ≤ 1 + length h.3 = rw (count_of_pairs put) (map_least c h.3 (length ps) (length put) fewer f p.0 h.5) in
      let all = pairs_least P least ps h.4 h.6 p.1 in
      rw h.2 (omega (arith, head, all, total-put_all [] ps, length-pairs_text put, ap length h.7, length-append h.3 h.4, length-append (map_head (pairs_count (pairs put))) (pairs_text (pairs put))))

  row_least : (m : Marker) (t : Tree) (s : List ℕ) → Fits m → Row Room P m t s → AreBytes s → length (shortest t) ≤ 1 + length s
  row_least Null t s f h b = rw h.0 (omega arith)
  row_least (Truth true) t s f h b = rw h.0 (omega arith)
  row_least (Truth false) t s f h b = rw h.0 (omega arith)
  row_least (Small z) t s f h b = let k = f.0 in rw h.0 (omega arith)
  row_least (Unsigned size) t s f h b = rw h.1 (unsigned_least size s h.0 b h.2)
  row_least (Signed size) t s f h b = rw h.1 (signed_least size s h.0 b h.2)
  row_least (Text c) t s f h b = rw h.1 (text_chunk c s h.0 f b h.2)
  row_least (Bytes c) t s f h b = rw h.1 (bytes_chunk c s h.0 f b h.2)
  row_least (ListOf c) t s f h b = list_row c t s f h b
  row_least (Map c) t s f h b = map_row c t s f h b
  row_least Never t s f h b = absurd h
  row_least Fraction t s f h b = absurd h
  row_least Ext t s f h b = absurd h

  one_least : IsLeast (One Room P)
  one_least t s h b =
      let whole = along s (h.0 ∷ h.1) h.3 b in
      omega (arith, row_least (marker_of h.0) t h.1 (fits h.0) h.2 whole.1, ap length h.3)

packs_least : (room : ℕ) → IsLeast (Packs room)
packs_least zero = one_least ⊥ NoSpelling (λ t s h b. absurd h)
packs_least (suc room) = one_least (Unit {0}) (Packs room) (packs_least room)

pub no_shorter : (t : Tree) (s : List ℕ) → IsSpelling t s → AreBytes s → length (shortest t) ≤ length s
unfolding IsSpelling
no_shorter t s h b = packs_least 64 t s h b
