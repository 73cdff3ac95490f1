-- What has a reason to be refused is refused so: it is no value, and there is no other reason.
use Rattle.std.proofs.Common.{◌≡◌, ◌⊎◌, inl, inr, ℕ, zero, suc, ◌-◌, ◌<◌, List, [], ◌∷◌, ◌++◌, length, Some, None, Err, refl, sym, ap, ◌∙◌, append_assoc, arith}
use Rattle.std.specs.Int.{Width}
use Rattle.std.proofs.lemmas.Bool.{lt-ltb}
use Rattle.hv_value.specs.Tree.{Tree, Pair}
use Rattle.hv_pack.specs.declared.error.PackError.{PackError}
use Rattle.hv_pack.specs.declared.error.PackError.TheVariants as errors
use Rattle.hv_pack.specs.declared.marker.Marker.{Marker}
use Rattle.hv_pack.specs.declared.marker.Marker.TheVariants.{Null, Bool as Truth, Small, Unsigned, Signed, Text, Bytes, List as ListOf, Map, Never, Fraction, Ext}
use Rattle.hv_pack.specs.declared.marker.Count.{Count}
use Rattle.hv_pack.specs.declared.marker.Count.TheVariants.{Here, Behind}
use Rattle.hv_pack.specs.Marker.{width, marker_of}
use Rattle.hv_pack.specs.Packs.{Spelling, NoSpelling, SpellsAll, SpellsPairs, Packs}
use Rattle.hv_pack.specs.Why.{Fault, LacksNumber, LacksCount, LacksChunk, TextWhy, KeyRow, KeyWhy, ListWhy, ValueWhy, MapWhy, Inside, RowWhy, OneWhy, NoFault, Why}
use Rattle.hv_pack.specs.Reading.{Read, Inner, number_at, count_at, chunk_at, text_at, key_of, key_at, many, pairs_at, list_at, map_at, value_of, one_at, value_at}
use Rattle.hv_pack.proofs.Again.{count_again, chunk_again, key_again, Finds, value_again}
use Rattle.hv_pack.proofs.Texts.{is_no_text}

number_stops : (at : ℕ) (w : Width) (s : List ℕ) → LacksNumber w s → number_at at w s ≡ Err (errors.Short at)
number_stops at w s h = rw (lt-ltb _ _ h) refl

count_stops : (at : ℕ) (c : Count) (s : List ℕ) → LacksCount c s → count_at at c s ≡ Err (errors.Short at)
count_stops at (Here k) s h = absurd h
count_stops at (Behind size) s h = number_stops at (width size) s h

chunk_stops : (at : ℕ) (c : Count) (s : List ℕ) → LacksChunk c s → chunk_at at c s ≡ Err (errors.Short at)
unfolding chunk_at
chunk_stops at c s (inl h) = rw (count_stops at c s h) refl
chunk_stops at c s (inr h) = ap (chunk_at at c) h.parts ∙ rw (count_again at c h.number h.n h.rest h.count, lt-ltb _ _ h.short) refl

text_stops : (at : ℕ) (c : Count) (s : List ℕ) (e : PackError) → TextWhy at c s e → text_at at c s ≡ Err e
unfolding text_at
text_stops at c s e (inl h) = rw (chunk_stops at c s h.0, h.1) refl
text_stops at c s e (inr h) = ap (text_at at c) h.0.parts ∙ rw (chunk_again at c h.0.chunk h.0.text h.0.rest h.0.is, is_no_text h.0.text h.0.no, h.1) refl

key_of_stops : (at : ℕ) (m : Marker) (s : List ℕ) (e : PackError) → KeyRow at m s e → key_of at m s ≡ Err e
key_of_stops at (Text c) s e h = text_stops at c s e h
key_of_stops at m s e h = ap Err (sym h)

key_stops : (end : ℕ) (s : List ℕ) (e : PackError) → KeyWhy end s e → key_at end s ≡ Err e
unfolding key_at
key_stops end [] e h = ap Err (sym h)
key_stops end (m ∷ s) e h = key_of_stops (end - length (m ∷ s)) (marker_of m) s e h

abbrev pub Stops : Fault → (List ℕ → Read Tree) → Type 0
Stops F read = (s : List ℕ) (e : PackError) → F s e → read s ≡ Err e

module _ (end : ℕ) (read : List ℕ → Read Tree) (P : Spelling) (F : Fault) (finds : Finds P read) (stops : Stops F read) where
  many_stop : (done : List Tree) (n : ℕ) (front rest : List ℕ) (e : PackError) → SpellsAll P done front → length done < n → read rest ≡ Err e → many read n (front ++ rest) ≡ Err e
  unfolding many
  many_stop done zero front rest e h lt no_more = absurd (omega arith)
  many_stop [] (suc n) front rest e h lt no_more = rw (h, no_more) refl
  many_stop (t ∷ done) (suc n) front rest e h lt no_more =
      let whole : front ++ rest ≡ h.0 ++ (h.1 ++ rest) = ap (λ (x : List ℕ). x ++ rest) h.4 ∙ append_assoc h.0 h.1 rest in
      ap (many read (suc n)) whole ∙ rw (finds t h.0 (h.1 ++ rest) h.2, many_stop done n h.1 rest e h.3 (omega arith) no_more) refl

  pairs_stop : (done : List Pair) (n : ℕ) (front rest : List ℕ) (e : PackError) → SpellsPairs P done front → length done < n → KeyWhy end rest e ⊎ ValueWhy F rest e → pairs_at end read n (front ++ rest) ≡ Err e
  unfolding pairs_at
  pairs_stop done zero front rest e h lt why = absurd (omega arith)
  pairs_stop [] (suc n) front rest e h lt (inl why) = rw (h, key_stops end rest e why) refl
  pairs_stop [] (suc n) front rest e h lt (inr why) =
      ap (λ (x : List ℕ). pairs_at end read (suc n) (x ++ rest)) h ∙ ap (pairs_at end read (suc n)) why.parts ∙ rw (key_again end why.name why.key why.rest why.is, stops why.rest e why.why) refl
  pairs_stop (p ∷ done) (suc n) front rest e h lt why =
      let whole : front ++ rest ≡ h.0 ++ (h.1 ++ (h.2 ++ rest)) = ap (λ (x : List ℕ). x ++ rest) h.6 ∙ append_assoc h.0 (h.1 ++ h.2) rest ∙ ap (λ (x : List ℕ). h.0 ++ x) (append_assoc h.1 h.2 rest) in
      ap (pairs_at end read (suc n)) whole ∙ rw (key_again end p.0 h.0 (h.1 ++ (h.2 ++ rest)) h.3, finds p.1 h.1 (h.2 ++ rest) h.4, pairs_stop done n h.2 rest e h.5 (omega arith) why) refl

  list_stops : (at : ℕ) (c : Count) → Stops (Inside at (Unit {0}) c (ListWhy P F)) (list_at at (Some read) c)
  unfolding list_at
  list_stops at c s e (inl h) = absurd (h.0 tt)
  list_stops at c s e (inr (room, inl h)) = rw (count_stops at c s h.0, h.1) refl
  list_stops at c s e (inr (room, inr h)) =
      ap (list_at at (Some read) c) (h.parts ∙ ap (λ (x : List ℕ). h.number ++ x) h.why.parts)
      ∙ rw (count_again at c h.number h.n (h.why.front ++ h.why.rest) h.count, many_stop h.why.done h.n h.why.front h.why.rest e h.why.spelled h.why.fewer (stops h.why.rest e h.why.why)) refl

  map_stops : (at : ℕ) (c : Count) → Stops (Inside at (Unit {0}) c (MapWhy end P F)) (map_at end at (Some read) c)
  unfolding map_at
  map_stops at c s e (inl h) = absurd (h.0 tt)
  map_stops at c s e (inr (room, inl h)) = rw (count_stops at c s h.0, h.1) refl
  map_stops at c s e (inr (room, inr h)) =
      ap (map_at end at (Some read) c) (h.parts ∙ ap (λ (x : List ℕ). h.number ++ x) h.why.parts)
      ∙ rw (count_again at c h.number h.n (h.why.front ++ h.why.rest) h.count, pairs_stop h.why.done h.n h.why.front h.why.rest e h.why.spelled h.why.fewer h.why.why) refl

module _ (end at : ℕ) (inside : Inner) (Room : Type 0) (P : Spelling) (F : Fault)
    (lists : (c : Count) → Stops (Inside at Room c (ListWhy P F)) (list_at at inside c)) (maps : (c : Count) → Stops (Inside at Room c (MapWhy end P F)) (map_at end at inside c)) where
  row_stops : (m : Marker) → Stops (RowWhy end at Room P F m) (value_of end at inside m)
  row_stops Null s e h = absurd h
  row_stops (Truth b) s e h = absurd h
  row_stops (Small z) s e h = absurd h
  row_stops (Unsigned size) s e h = rw (number_stops at (width size) s h.0, h.1) refl
  row_stops (Signed size) s e h = rw (number_stops at (width size) s h.0, h.1) refl
  row_stops (Text c) s e h = rw (text_stops at c s e h) refl
  row_stops (Bytes c) s e h = rw (chunk_stops at c s h.0, h.1) refl
  row_stops (ListOf c) s e h = lists c s e h
  row_stops (Map c) s e h = maps c s e h
  row_stops Never s e h = ap Err (sym h)
  row_stops Fraction s e h = ap Err (sym h)
  row_stops Ext s e h = ap Err (sym h)

one_stops : (end : ℕ) (inside : Inner) (Room : Type 0) (P : Spelling) (F : Fault) → ((at : ℕ) (c : Count) → Stops (Inside at Room c (ListWhy P F)) (list_at at inside c)) → ((at : ℕ) (c : Count) → Stops (Inside at Room c (MapWhy end P F)) (map_at end at inside c))
    → Stops (OneWhy end Room P F) (one_at end inside)
one_stops end inside Room P F lists maps [] e h = ap Err (sym h)
one_stops end inside Room P F lists maps (m ∷ s) e h = let at = end - length (m ∷ s) in row_stops end at inside Room P F (lists at) (maps at) (marker_of m) s e h

no_list : (F : ℕ → Fault) (at : ℕ) (c : Count) → Stops (Inside at ⊥ c F) (list_at at None c)
unfolding list_at
no_list F at c s e (inl h) = ap Err (sym h.1)
no_list F at c s e (inr h) = absurd h.0

no_map : (end : ℕ) (F : ℕ → Fault) (at : ℕ) (c : Count) → Stops (Inside at ⊥ c F) (map_at end at None c)
unfolding map_at
no_map end F at c s e (inl h) = ap Err (sym h.1)
no_map end F at c s e (inr h) = absurd h.0

pub value_stops : (end room : ℕ) → Stops (Why end room) (value_at end room)
value_stops end zero = one_stops end None ⊥ NoSpelling NoFault (no_list (ListWhy NoSpelling NoFault)) (no_map end (MapWhy end NoSpelling NoFault))
value_stops end (suc room) =
    let finds = value_again end room in
    let stops = value_stops end room in
    one_stops end (Some (value_at end room)) (Unit {0}) (Packs room) (Why end room) (list_stops end (value_at end room) (Packs room) (Why end room) finds stops) (map_stops end (value_at end room) (Packs room) (Why end room) finds stops)
