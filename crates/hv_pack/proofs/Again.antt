-- What is spelled so is read.
use Rattle.std.proofs.Common.{◌≡◌, ℕ, zero, suc, ◌-◌, false, ltb, List, [], ◌∷◌, ◌++◌, length, Some, None, Ok, refl, ap, ◌∙◌, append_assoc, arith}
use Rattle.std.specs.Int.{Width, byte_len}
use Rattle.std.specs.Str.{IsUtf8}
use Rattle.std.proofs.lemmas.Bool.{le-ltb}
use Rattle.std.proofs.lemmas.List.{take_at, drop_at, length-append}
use Rattle.std.proofs.lemmas.Str.{is_utf8-from_IsUtf8}
use Rattle.hv_value.specs.Tree.{Tree, Pair}
use Rattle.hv_pack.specs.declared.marker.Marker.{Marker}
use Rattle.hv_pack.specs.declared.marker.Marker.TheVariants.{Null, Bool as Truth, Small, Unsigned, Signed, Text, Bytes, List as ListOf, Map, Never, Fraction, Ext}
use Rattle.hv_pack.specs.declared.marker.Count.{Count}
use Rattle.hv_pack.specs.declared.marker.Count.TheVariants.{Here, Behind}
use Rattle.hv_pack.specs.Marker.{width, marker_of}
use Rattle.hv_pack.specs.Packs.{IsNumber, IsCount, IsChunk, IsKey, Spelling, NoSpelling, SpellsAll, SpellsPairs, Row, One, Packs}
use Rattle.hv_pack.specs.Reading.{Read, Inner, number_at, count_at, chunk_at, text_at, key_at, many, pairs_at, list_at, map_at, value_of, one_at, value_at}

pub number_again : (at : ℕ) (w : Width) (b : List ℕ) (n : ℕ) (rest : List ℕ) → IsNumber w b n → number_at at w (b ++ rest) ≡ Ok (n, rest)
number_again at w b n rest h =
    let long : ltb (length (b ++ rest)) (byte_len w) ≡ false = le-ltb _ _ (omega (arith, length-append b rest, h.len)) in
    rw (long, take_at b rest (byte_len w) h.len, drop_at b rest (byte_len w) h.len, h.value) refl

pub count_again : (at : ℕ) (c : Count) (b : List ℕ) (n : ℕ) (rest : List ℕ) → IsCount c b n → count_at at c (b ++ rest) ≡ Ok (n, rest)
count_again at (Here k) b n rest h = rw (h.0, h.1) refl
count_again at (Behind size) b n rest h = number_again at (width size) b n rest h

pub chunk_again : (at : ℕ) (c : Count) (b t rest : List ℕ) → IsChunk c b t → chunk_at at c (b ++ rest) ≡ Ok (t, rest)
unfolding chunk_at
chunk_again at c b t rest h =
    let whole : b ++ rest ≡ h.number ++ (t ++ rest) = ap (λ (x : List ℕ). x ++ rest) h.parts ∙ append_assoc h.number t rest in
    let long : ltb (length (t ++ rest)) (length t) ≡ false = le-ltb _ _ (omega (arith, length-append t rest)) in
    ap (chunk_at at c) whole ∙ rw (count_again at c h.number (length t) (t ++ rest) h.count, long, take_at t rest (length t) refl, drop_at t rest (length t) refl) refl

pub text_again : (at : ℕ) (c : Count) (b t rest : List ℕ) → IsChunk c b t → IsUtf8 t → text_at at c (b ++ rest) ≡ Ok (t, rest)
unfolding text_at
text_again at c b t rest h utf8 = rw (chunk_again at c b t rest h, is_utf8-from_IsUtf8 t utf8) refl

pub key_again : (end : ℕ) (k b rest : List ℕ) → IsKey k b → key_at end (b ++ rest) ≡ Ok (k, rest)
unfolding key_at
key_again end k b rest h =
    ap (λ (x : List ℕ). key_at end (x ++ rest)) h.whole ∙ rw h.row (text_again (end - length (h.marker ∷ (h.rest ++ rest))) h.len h.rest k rest h.chunk h.utf8)

-- what P spells is read by `read`
abbrev pub Finds : Spelling → (List ℕ → Read Tree) → Type 0
Finds P read = (t : Tree) (b : List ℕ) (rest : List ℕ) → P t b → read (b ++ rest) ≡ Ok (t, rest)

module _ (read : List ℕ → Read Tree) (P : Spelling) (finds : Finds P read) where
  pub many_again : (ts : List Tree) (b : List ℕ) (rest : List ℕ) → SpellsAll P ts b → many read (length ts) (b ++ rest) ≡ Ok (ts, rest)
  unfolding many
  many_again [] b rest h = rw h refl
  many_again (t ∷ ts) b rest h =
      let whole : b ++ rest ≡ h.0 ++ (h.1 ++ rest) = ap (λ (x : List ℕ). x ++ rest) h.4 ∙ append_assoc h.0 h.1 rest in
      ap (many read (suc (length ts))) whole ∙ rw (finds t h.0 (h.1 ++ rest) h.2, many_again ts h.1 rest h.3) refl

  pub pairs_again : (end : ℕ) (ps : List Pair) (b : List ℕ) (rest : List ℕ) → SpellsPairs P ps b → pairs_at end read (length ps) (b ++ rest) ≡ Ok (ps, rest)
  unfolding pairs_at
  pairs_again end [] b rest h = rw h refl
  pairs_again end (p ∷ ps) b rest h =
      let whole : b ++ rest ≡ h.0 ++ (h.1 ++ (h.2 ++ rest)) = ap (λ (x : List ℕ). x ++ rest) h.6 ∙ append_assoc h.0 (h.1 ++ h.2) rest ∙ ap (λ (x : List ℕ). h.0 ++ x) (append_assoc h.1 h.2 rest) in
      ap (pairs_at end read (suc (length ps))) whole ∙ rw (key_again end p.0 h.0 (h.1 ++ (h.2 ++ rest)) h.3, finds p.1 h.1 (h.2 ++ rest) h.4, pairs_again end ps h.2 rest h.5) refl

  pub list_again : (at : ℕ) (c : Count) → Finds (Row (Unit {0}) P (ListOf c)) (list_at at (Some read) c)
  unfolding list_at
  list_again at c t b rest h =
      let whole : b ++ rest ≡ h.3 ++ (h.4 ++ rest) = ap (λ (x : List ℕ). x ++ rest) h.7 ∙ append_assoc h.3 h.4 rest in
      ap (list_at at (Some read) c) whole ∙ rw (count_again at c h.3 (length h.1) (h.4 ++ rest) h.5, many_again h.1 h.4 rest h.6, h.2) refl

  pub map_again : (end at : ℕ) (c : Count) → Finds (Row (Unit {0}) P (Map c)) (map_at end at (Some read) c)
  unfolding map_at
  map_again end at c t b rest h =
      let whole : b ++ rest ≡ h.3 ++ (h.4 ++ rest) = ap (λ (x : List ℕ). x ++ rest) h.7 ∙ append_assoc h.3 h.4 rest in
      ap (map_at end at (Some read) c) whole ∙ rw (count_again at c h.3 (length h.1) (h.4 ++ rest) h.5, pairs_again end h.1 h.4 rest h.6, h.2) refl

module _ (end at : ℕ) (inside : Inner) (Room : Type 0) (P : Spelling)
    (lists : (c : Count) → Finds (Row Room P (ListOf c)) (list_at at inside c)) (maps : (c : Count) → Finds (Row Room P (Map c)) (map_at end at inside c)) where
  row_again : (m : Marker) → Finds (Row Room P m) (value_of end at inside m)
  row_again Null t b rest h = rw (h.0, h.1) refl
  row_again (Truth x) t b rest h = rw (h.0, h.1) refl
  row_again (Small z) t b rest h = rw (h.0, h.1) refl
  row_again (Unsigned size) t b rest h = rw (number_again at (width size) b h.0 rest h.2, h.1) refl
  row_again (Signed size) t b rest h = rw (number_again at (width size) b h.0 rest h.2, h.1) refl
  row_again (Text c) t b rest h = rw (text_again at c b h.0 rest h.2 h.3, h.1) refl
  row_again (Bytes c) t b rest h = rw (chunk_again at c b h.0 rest h.2, h.1) refl
  row_again (ListOf c) t b rest h = lists c t b rest h
  row_again (Map c) t b rest h = maps c t b rest h
  row_again Never t b rest h = absurd h
  row_again Fraction t b rest h = absurd h
  row_again Ext t b rest h = absurd h

one_again : (end : ℕ) (inside : Inner) (Room : Type 0) (P : Spelling) → ((at : ℕ) (c : Count) → Finds (Row Room P (ListOf c)) (list_at at inside c)) → ((at : ℕ) (c : Count) → Finds (Row Room P (Map c)) (map_at end at inside c))
    → Finds (One Room P) (one_at end inside)
one_again end inside Room P lists maps t b rest h =
    let at = end - length (h.0 ∷ (h.1 ++ rest)) in
    ap (λ (x : List ℕ). one_at end inside (x ++ rest)) h.3 ∙ row_again end at inside Room P (lists at) (maps at) (marker_of h.0) t h.1 rest h.2

pub value_again : (end room : ℕ) → Finds (Packs room) (value_at end room)
value_again end zero = one_again end None ⊥ NoSpelling (λ at c t b rest h. absurd h.0) (λ at c t b rest h. absurd h.0)
value_again end (suc room) = one_again end (Some (value_at end room)) (Unit {0}) (Packs room) (list_again (value_at end room) (Packs room) (value_again end room)) (λ at c. map_again (value_at end room) (Packs room) (value_again end room) end at c)
