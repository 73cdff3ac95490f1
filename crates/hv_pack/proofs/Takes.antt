-- What is read is spelled so.
use Rattle.std.proofs.Common.{◌≡◌, ℕ, zero, suc, ◌-◌, ◌≤◌, Bool, true, false, cond, ltb, List, [], ◌∷◌, ◌++◌, length, take, drop, Some, None, Result, Ok, Err, refl, sym, ap, subst, ◌∙◌, append_assoc, arith, pos}
use Rattle.std.specs.Int.{Width, byte_len, from_be_bytes, cast_signed}
use Rattle.std.specs.Str.{IsUtf8, is_utf8}
use Rattle.std.proofs.lemmas.Bool.{ltb-false}
use Rattle.std.proofs.lemmas.List.{take-append-drop, length-take}
use Rattle.std.proofs.lemmas.Str.{IsUtf8-from_is_utf8}
use Rattle.hv_value.specs.Tree.{Tree, null, boolean, int, text, bytes, list, Pair, trees, map_of}
use Rattle.hv_pack.specs.declared.error.PackError.{PackError}
use Rattle.hv_pack.specs.declared.error.PackError.TheVariants as errors
use Rattle.hv_pack.specs.declared.marker.Marker.{Marker}
use Rattle.hv_pack.specs.declared.marker.Marker.TheVariants.{Null, Bool as Truth, Small, Unsigned, Signed, Text, Bytes, List as ListOf, Map, Never, Fraction, Ext}
use Rattle.hv_pack.specs.declared.marker.Count.{Count}
use Rattle.hv_pack.specs.declared.marker.Count.TheVariants.{Here, Behind}
use Rattle.hv_pack.specs.Marker.{width, marker_of}
use Rattle.hv_pack.specs.Packs.{IsNumber, IsCount, IsChunk, IsKey, Spelling, NoSpelling, SpellsAll, SpellsPairs, Row, One, Packs}
use Rattle.hv_pack.specs.Reading.{◌>>=◌, Read, Inner, number_at, count_at, chunk_at, text_at, key_of, key_at, many, pairs_at, list_at, map_at, value_of, one_at, value_at}

-- the value of a step that did not fail
pub bind_ok : {A B : Type 0} (r : Result A PackError) (f : A → Result B PackError) (y : B) → (r >>= f) ≡ Ok y → (x : A) × (r ≡ Ok x) × (f x ≡ Ok y)
bind_ok (Ok x) f y e = (x, refl, e)
bind_ok (Err d) f y e = absurd cc

-- tests that did not fail
pub guard_ok : {A : Type 0} (b : Bool) (d : PackError) (x y : A) → cond b (Err d) (Ok x) ≡ Ok y → (b ≡ false) × (x ≡ y)
guard_ok true d x y e = absurd cc
guard_ok false d x y e = (refl, cc)

pub guard_true : {A : Type 0} (b : Bool) (d : PackError) (x y : A) → cond b (Ok x) (Err d) ≡ Ok y → (b ≡ true) × (x ≡ y)
guard_true true d x y e = (refl, cc)
guard_true false d x y e = absurd cc

abbrev done : {A : Type 0} → A → Result A PackError
done x = Ok x

pub ok_is : {A : Type 0} (x y : A) → done x ≡ done y → x ≡ y
ok_is x y e = cc

-- the front of s that was read, and what was read of it
pub record Front (P : List ℕ → Type 0) (s rest : List ℕ) : Type 0 where
  pub front : List ℕ
  pub parts : s ≡ front ++ rest
  pub is : P front

pub number_takes : (at : ℕ) (w : Width) (s : List ℕ) (n : ℕ) (rest : List ℕ) → number_at at w s ≡ Ok (n, rest) → Front (λ b. IsNumber w b n) s rest
number_takes at w s n rest e =
    let g = guard_ok (ltb (length s) (byte_len w)) (errors.Short at) (from_be_bytes w (take (byte_len w) s), drop (byte_len w) s) (n, rest) e in
    let long : byte_len w ≤ length s = ltb-false _ _ g.0 in
    let n-is : from_be_bytes w (take (byte_len w) s) ≡ n = ap (λ (p : ℕ × List ℕ). p.0) g.1 in
    let rest-is : drop (byte_len w) s ≡ rest = ap (λ (p : ℕ × List ℕ). p.1) g.1 in
    record {
      front = take (byte_len w) s;
      parts = rw (← rest-is) (sym (take-append-drop (byte_len w) s));
      is = record { len = omega (arith, length-take (byte_len w) s); value = n-is };
    }

pub count_takes : (at : ℕ) (c : Count) (s : List ℕ) (n : ℕ) (rest : List ℕ) → count_at at c s ≡ Ok (n, rest) → Front (λ b. IsCount c b n) s rest
count_takes at (Here k) s n rest e =
    let p = ok_is (k, s) (n, rest) e in
    record { front = []; parts = ap (λ (q : ℕ × List ℕ). q.1) p; is = (refl, ap (λ (q : ℕ × List ℕ). q.0) p) }
count_takes at (Behind size) s n rest e = number_takes at (width size) s n rest e

pub chunk_takes : (at : ℕ) (c : Count) (s t rest : List ℕ) → chunk_at at c s ≡ Ok (t, rest) → Front (λ b. IsChunk c b t) s rest
unfolding chunk_at
chunk_takes at c s t rest e =
    let b = bind_ok (count_at at c s) (λ n. cond (ltb (length n.1) n.0) (Err (errors.Short at)) (Ok (take n.0 n.1, drop n.0 n.1))) (t, rest) e in
    let n = b.0 in
    let f = count_takes at c s n.0 n.1 b.1 in
    let g = guard_ok (ltb (length n.1) n.0) (errors.Short at) (take n.0 n.1, drop n.0 n.1) (t, rest) b.2 in
    let long : n.0 ≤ length n.1 = ltb-false _ _ g.0 in
    let t-is : take n.0 n.1 ≡ t = ap (λ (p : List ℕ × List ℕ). p.0) g.1 in
    let taken : n.0 ≡ length (take n.0 n.1) = omega (arith, length-take n.0 n.1) in
    let len : n.0 ≡ length t = taken ∙ ap length t-is in
    let whole : n.1 ≡ t ++ rest = sym (take-append-drop n.0 n.1) ∙ ap (λ (p : List ℕ × List ℕ). p.0 ++ p.1) g.1 in
    record {
      front = f.front ++ t;
      parts = f.parts ∙ ap (λ (x : List ℕ). f.front ++ x) whole ∙ sym (append_assoc f.front t rest);
      is = record { number = f.front; count = subst (λ (k : ℕ). IsCount c f.front k) len f.is; parts = refl };
    }

pub record IsText (c : Count) (s t : List ℕ) : Type 0 where
  pub chunk : IsChunk c s t
  pub utf8 : IsUtf8 t

pub text_takes : (at : ℕ) (c : Count) (s t rest : List ℕ) → text_at at c s ≡ Ok (t, rest) → Front (λ b. IsText c b t) s rest
unfolding text_at
text_takes at c s t rest e =
    let b = bind_ok (chunk_at at c s) (λ t. cond (is_utf8 t.0) (Ok t) (Err (errors.NotUtf8 at))) (t, rest) e in
    let g = guard_true (is_utf8 b.0.0) (errors.NotUtf8 at) b.0 (t, rest) b.2 in
    let f = chunk_takes at c s t rest (subst (λ (x : List ℕ × List ℕ). chunk_at at c s ≡ Ok x) g.1 b.1) in
    let utf8 : is_utf8 t ≡ true = subst (λ (x : List ℕ × List ℕ). is_utf8 x.0 ≡ true) g.1 g.0 in
    record { front = f.front; parts = f.parts; is = record { chunk = f.is; utf8 = IsUtf8-from_is_utf8 t utf8 } }

key_of_takes : (at : ℕ) (m : Marker) (s k rest : List ℕ) → key_of at m s ≡ Ok (k, rest) → (c : Count) × (m ≡ Text c) × Front (λ b. IsText c b k) s rest
key_of_takes at (Text c) s k rest e = (c, refl, text_takes at c s k rest e)
key_of_takes at m s k rest e = absurd cc

pub key_takes : (end : ℕ) (s k rest : List ℕ) → key_at end s ≡ Ok (k, rest) → Front (IsKey k) s rest
unfolding key_at
key_takes end [] k rest e = absurd cc
key_takes end (m ∷ s) k rest e =
    let f = key_of_takes (end - length (m ∷ s)) (marker_of m) s k rest e in
    record {
      front = m ∷ f.2.front;
      parts = ap (λ (x : List ℕ). m ∷ x) f.2.parts;
      is = record { marker = m; len = f.0; row = f.1; rest = f.2.front; whole = refl; chunk = f.2.is.chunk; utf8 = f.2.is.utf8 };
    }

-- what `read` reads is spelled by P
abbrev pub Reads : (List ℕ → Read Tree) → Spelling → Type 0
Reads read P = (s : List ℕ) (t : Tree) (rest : List ℕ) → read s ≡ Ok (t, rest) → Front (P t) s rest

module _ (read : List ℕ → Read Tree) (P : Spelling) (reads : Reads read P) where
  pub many_takes : (n : ℕ) (s : List ℕ) (ts : List Tree) (rest : List ℕ) → many read n s ≡ Ok (ts, rest) → Front (SpellsAll P ts) s rest × (length ts ≡ n)
  unfolding many
  many_takes zero s ts rest e =
      subst (λ (x : List Tree × List ℕ). Front (SpellsAll P x.0) s x.1 × (length x.0 ≡ 0)) (ok_is ([], s) (ts, rest) e) (record { front = []; parts = refl; is = refl }, refl)
  many_takes (suc n) s ts rest e =
      let a = bind_ok (read s) (λ t. many read n t.1 >>= λ ts. Ok (t.0 ∷ ts.0, ts.1)) (ts, rest) e in
      let b = bind_ok (many read n a.0.1) (λ ts. Ok (a.0.0 ∷ ts.0, ts.1)) (ts, rest) a.2 in
      let f = reads s a.0.0 a.0.1 a.1 in
      let g = many_takes n a.0.1 b.0.0 b.0.1 b.1 in
      let all : Front (SpellsAll P (a.0.0 ∷ b.0.0)) s b.0.1 = record {
        front = f.front ++ g.0.front;
        parts = f.parts ∙ ap (λ (x : List ℕ). f.front ++ x) g.0.parts ∙ sym (append_assoc f.front g.0.front b.0.1);
        is = (f.front, g.0.front, f.is, g.0.is, refl);
      } in
      subst (λ (x : List Tree × List ℕ). Front (SpellsAll P x.0) s x.1 × (length x.0 ≡ suc n)) (ok_is (a.0.0 ∷ b.0.0, b.0.1) (ts, rest) b.2) (all, ap suc g.1)

  pub pairs_take : (end n : ℕ) (s : List ℕ) (ps : List Pair) (rest : List ℕ) → pairs_at end read n s ≡ Ok (ps, rest) → Front (SpellsPairs P ps) s rest × (length ps ≡ n)
  unfolding pairs_at
  pairs_take end zero s ps rest e =
      subst (λ (x : List Pair × List ℕ). Front (SpellsPairs P x.0) s x.1 × (length x.0 ≡ 0)) (ok_is ([], s) (ps, rest) e) (record { front = []; parts = refl; is = refl }, refl)
  pairs_take end (suc n) s ps rest e =
      let k = bind_ok (key_at end s) (λ k. read k.1 >>= λ t. pairs_at end read n t.1 >>= λ ps. Ok ((k.0, t.0) ∷ ps.0, ps.1)) (ps, rest) e in
      let a = bind_ok (read k.0.1) (λ t. pairs_at end read n t.1 >>= λ ps. Ok ((k.0.0, t.0) ∷ ps.0, ps.1)) (ps, rest) k.2 in
      let b = bind_ok (pairs_at end read n a.0.1) (λ ps. Ok ((k.0.0, a.0.0) ∷ ps.0, ps.1)) (ps, rest) a.2 in
      let h = key_takes end s k.0.0 k.0.1 k.1 in
      let f = reads k.0.1 a.0.0 a.0.1 a.1 in
      let g = pairs_take end n a.0.1 b.0.0 b.0.1 b.1 in
      let all : Front (SpellsPairs P ((k.0.0, a.0.0) ∷ b.0.0)) s b.0.1 = record {
        front = h.front ++ (f.front ++ g.0.front);
        parts = h.parts ∙ ap (λ (x : List ℕ). h.front ++ x) (f.parts ∙ ap (λ (x : List ℕ). f.front ++ x) g.0.parts ∙ sym (append_assoc f.front g.0.front b.0.1)) ∙ sym (append_assoc h.front (f.front ++ g.0.front) b.0.1);
        is = (h.front, f.front, g.0.front, h.is, f.is, g.0.is, refl);
      } in
      subst (λ (x : List Pair × List ℕ). Front (SpellsPairs P x.0) s x.1 × (length x.0 ≡ suc n)) (ok_is ((k.0.0, a.0.0) ∷ b.0.0, b.0.1) (ps, rest) b.2) (all, ap suc g.1)

  pub list_takes : (at : ℕ) (c : Count) → Reads (list_at at (Some read) c) (Row (Unit {0}) P (ListOf c))
  unfolding list_at
  list_takes at c s t rest e =
      let a = bind_ok (count_at at c s) (λ n. many read n.0 n.1 >>= λ ts. Ok (list (trees ts.0), ts.1)) (t, rest) e in
      let b = bind_ok (many read a.0.0 a.0.1) (λ ts. Ok (list (trees ts.0), ts.1)) (t, rest) a.2 in
      let f = count_takes at c s a.0.0 a.0.1 a.1 in
      let g = many_takes a.0.0 a.0.1 b.0.0 b.0.1 b.1 in
      let row : Front (Row (Unit {0}) P (ListOf c) (list (trees b.0.0))) s b.0.1 = record {
        front = f.front ++ g.0.front;
        parts = f.parts ∙ ap (λ (x : List ℕ). f.front ++ x) g.0.parts ∙ sym (append_assoc f.front g.0.front b.0.1);
        is = (tt, b.0.0, refl, f.front, g.0.front, subst (λ (k : ℕ). IsCount c f.front k) (sym g.1) f.is, g.0.is, refl);
      } in
      subst (λ (x : Tree × List ℕ). Front (Row (Unit {0}) P (ListOf c) x.0) s x.1) (ok_is (list (trees b.0.0), b.0.1) (t, rest) b.2) row

  pub map_takes : (end at : ℕ) (c : Count) → Reads (map_at end at (Some read) c) (Row (Unit {0}) P (Map c))
  unfolding map_at
  map_takes end at c s t rest e =
      let a = bind_ok (count_at at c s) (λ n. pairs_at end read n.0 n.1 >>= λ ps. Ok (map_of ps.0, ps.1)) (t, rest) e in
      let b = bind_ok (pairs_at end read a.0.0 a.0.1) (λ ps. Ok (map_of ps.0, ps.1)) (t, rest) a.2 in
      let f = count_takes at c s a.0.0 a.0.1 a.1 in
      let g = pairs_take end a.0.0 a.0.1 b.0.0 b.0.1 b.1 in
      let row : Front (Row (Unit {0}) P (Map c) (map_of b.0.0)) s b.0.1 = record {
        front = f.front ++ g.0.front;
        parts = f.parts ∙ ap (λ (x : List ℕ). f.front ++ x) g.0.parts ∙ sym (append_assoc f.front g.0.front b.0.1);
        is = (tt, b.0.0, refl, f.front, g.0.front, subst (λ (k : ℕ). IsCount c f.front k) (sym g.1) f.is, g.0.is, refl);
      } in
      subst (λ (x : Tree × List ℕ). Front (Row (Unit {0}) P (Map c) x.0) s x.1) (ok_is (map_of b.0.0, b.0.1) (t, rest) b.2) row

-- ---- one value

alone : (Room : Type 0) (P : Spelling) (m : Marker) (v t : Tree) (s rest : List ℕ) → Row Room P m v [] → done {A = Tree × List ℕ} (v, s) ≡ Ok (t, rest) → Front (Row Room P m t) s rest
alone Room P m v t s rest row e = subst (λ (x : Tree × List ℕ). Front (Row Room P m x.0) s x.1) (ok_is (v, s) (t, rest) e) (record { front = []; parts = refl; is = row })

moved : {Q : List ℕ → Type 0} (Room : Type 0) (P : Spelling) (m : Marker) (v t : Tree) (s mid rest : List ℕ) → Front Q s mid → ((b : List ℕ) → Q b → Row Room P m v b) → done {A = Tree × List ℕ} (v, mid) ≡ Ok (t, rest) → Front (Row Room P m t) s rest
moved Room P m v t s mid rest f row e =
    subst (λ (x : Tree × List ℕ). Front (Row Room P m x.0) s x.1) (ok_is (v, mid) (t, rest) e) (record { front = f.front; parts = f.parts; is = row f.front f.is })

module _ (end at : ℕ) (inside : Inner) (Room : Type 0) (P : Spelling)
    (lists : (c : Count) → Reads (list_at at inside c) (Row Room P (ListOf c))) (maps : (c : Count) → Reads (map_at end at inside c) (Row Room P (Map c))) where
  row_takes : (m : Marker) → Reads (value_of end at inside m) (Row Room P m)
  row_takes Null s t rest e = alone Room P Null null t s rest (refl, refl) e
  row_takes (Truth b) s t rest e = alone Room P (Truth b) (boolean b) t s rest (refl, refl) e
  row_takes (Small z) s t rest e = alone Room P (Small z) (int z) t s rest (refl, refl) e
  row_takes (Unsigned size) s t rest e =
      let a = bind_ok (number_at at (width size) s) (λ n. Ok (int (pos n.0), n.1)) (t, rest) e in
      moved Room P (Unsigned size) (int (pos a.0.0)) t s a.0.1 rest (number_takes at (width size) s a.0.0 a.0.1 a.1) (λ b h. (a.0.0, refl, h)) a.2
  row_takes (Signed size) s t rest e =
      let a = bind_ok (number_at at (width size) s) (λ n. Ok (int (cast_signed (width size) n.0), n.1)) (t, rest) e in
      moved Room P (Signed size) (int (cast_signed (width size) a.0.0)) t s a.0.1 rest (number_takes at (width size) s a.0.0 a.0.1 a.1) (λ b h. (a.0.0, refl, h)) a.2
  row_takes (Text c) s t rest e =
      let a = bind_ok (text_at at c s) (λ x. Ok (text x.0, x.1)) (t, rest) e in
      moved Room P (Text c) (text a.0.0) t s a.0.1 rest (text_takes at c s a.0.0 a.0.1 a.1) (λ b h. (a.0.0, refl, h.chunk, h.utf8)) a.2
  row_takes (Bytes c) s t rest e =
      let a = bind_ok (chunk_at at c s) (λ x. Ok (bytes x.0, x.1)) (t, rest) e in
      moved Room P (Bytes c) (bytes a.0.0) t s a.0.1 rest (chunk_takes at c s a.0.0 a.0.1 a.1) (λ b h. (a.0.0, refl, h)) a.2
  row_takes (ListOf c) s t rest e = lists c s t rest e
  row_takes (Map c) s t rest e = maps c s t rest e
  row_takes Never s t rest e = absurd cc
  row_takes Fraction s t rest e = absurd cc
  row_takes Ext s t rest e = absurd cc

one_takes : (end : ℕ) (inside : Inner) (Room : Type 0) (P : Spelling) → ((at : ℕ) (c : Count) → Reads (list_at at inside c) (Row Room P (ListOf c))) → ((at : ℕ) (c : Count) → Reads (map_at end at inside c) (Row Room P (Map c)))
    → Reads (one_at end inside) (One Room P)
one_takes end inside Room P lists maps [] t rest e = absurd cc
one_takes end inside Room P lists maps (m ∷ s) t rest e =
    let at = end - length (m ∷ s) in
    let f = row_takes end at inside Room P (lists at) (maps at) (marker_of m) s t rest e in
    record { front = m ∷ f.front; parts = ap (λ (x : List ℕ). m ∷ x) f.parts; is = (m, f.front, f.is, refl) }

no_list : (at : ℕ) (c : Count) → Reads (list_at at None c) (Row ⊥ NoSpelling (ListOf c))
unfolding list_at
no_list at c s t rest e = absurd cc

no_map : (end at : ℕ) (c : Count) → Reads (map_at end at None c) (Row ⊥ NoSpelling (Map c))
unfolding map_at
no_map end at c s t rest e = absurd cc

pub value_takes : (end room : ℕ) → Reads (value_at end room) (Packs room)
value_takes end zero = one_takes end None ⊥ NoSpelling no_list (no_map end)
value_takes end (suc room) = one_takes end (Some (value_at end room)) (Unit {0}) (Packs room) (list_takes (value_at end room) (Packs room) (value_takes end room)) (λ at c. map_takes (value_at end room) (Packs room) (value_takes end room) end at c)
