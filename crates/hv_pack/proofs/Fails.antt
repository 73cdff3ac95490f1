-- What is refused is refused for this reason.
use Rattle.std.proofs.Common.{◌≡◌, ◌⊎◌, inl, inr, ℕ, zero, suc, ◌-◌, Bool, true, false, cond, ltb, List, [], ◌∷◌, ◌++◌, length, take, drop, Some, None, Result, Ok, Err, refl, sym, ap, ◌∙◌, append_assoc, arith, pos}
use Rattle.std.specs.Int.{Width, byte_len, from_be_bytes, cast_signed}
use Rattle.std.specs.Str.{IsUtf8, is_utf8}
use Rattle.std.proofs.lemmas.Bool.{ltb-true}
use Rattle.std.proofs.lemmas.Str.{is_utf8-from_IsUtf8}
use Rattle.hv_value.specs.Tree.{Tree, int, text, bytes, list, trees, map_of}
use Rattle.hv_pack.specs.declared.error.PackError.{PackError}
use Rattle.hv_pack.specs.declared.error.PackError.TheVariants as errors
use Rattle.hv_pack.specs.declared.marker.Marker.{Marker}
use Rattle.hv_pack.specs.declared.marker.Marker.TheVariants.{Null, Bool as Truth, Small, Unsigned, Signed, Text, Bytes, List as ListOf, Map, Never, Fraction, Ext}
use Rattle.hv_pack.specs.declared.marker.Count.{Count}
use Rattle.hv_pack.specs.declared.marker.Count.TheVariants.{Here, Behind}
use Rattle.hv_pack.specs.Marker.{width, marker_of}
use Rattle.hv_pack.specs.Packs.{Spelling, NoSpelling, Packs}
use Rattle.hv_pack.specs.Why.{Fault, LacksNumber, LacksCount, LacksChunk, TextWhy, KeyRow, KeyWhy, ListWhy, MapWhy, Inside, RowWhy, OneWhy, NoFault, Why}
use Rattle.hv_pack.specs.Reading.{◌>>=◌, Read, Inner, number_at, count_at, chunk_at, text_at, key_of, key_at, many, pairs_at, list_at, map_at, value_of, one_at, value_at}
use Rattle.hv_pack.proofs.Takes.{count_takes, chunk_takes, key_takes, Reads, value_takes}

-- which step failed
pub bind_err : {A B : Type 0} (r : Result A PackError) (f : A → Result B PackError) (e : PackError) → (r >>= f) ≡ Err e → (r ≡ Err e) ⊎ ((x : A) × (r ≡ Ok x) × (f x ≡ Err e))
bind_err (Ok x) f e h = inr (x, refl, h)
bind_err (Err d) f e h = inl cc

-- the test that failed
guard_err : {A : Type 0} (b : Bool) (d e : PackError) (x : A) → cond b (Err d) (Ok x) ≡ Err e → (b ≡ true) × (e ≡ d)
guard_err true d e x h = (refl, cc)
guard_err false d e x h = absurd cc

guard_no : {A : Type 0} (b : Bool) (d e : PackError) (x : A) → cond b (Ok x) (Err d) ≡ Err e → (b ≡ false) × (e ≡ d)
guard_no true d e x h = absurd cc
guard_no false d e x h = (refl, cc)

pub number_fails : (at : ℕ) (w : Width) (s : List ℕ) (e : PackError) → number_at at w s ≡ Err e → LacksNumber w s × (e ≡ errors.Short at)
number_fails at w s e h =
    let g = guard_err (ltb (length s) (byte_len w)) (errors.Short at) e (from_be_bytes w (take (byte_len w) s), drop (byte_len w) s) h in
    (ltb-true _ _ g.0, g.1)

pub count_fails : (at : ℕ) (c : Count) (s : List ℕ) (e : PackError) → count_at at c s ≡ Err e → LacksCount c s × (e ≡ errors.Short at)
count_fails at (Here k) s e h = absurd cc
count_fails at (Behind size) s e h = number_fails at (width size) s e h

pub chunk_fails : (at : ℕ) (c : Count) (s : List ℕ) (e : PackError) → chunk_at at c s ≡ Err e → LacksChunk c s × (e ≡ errors.Short at)
unfolding chunk_at
chunk_fails at c s e h =
    elim (bind_err (count_at at c s) (λ n. cond (ltb (length n.1) n.0) (Err (errors.Short at)) (Ok (take n.0 n.1, drop n.0 n.1))) e h) [
      | inl a ↦ let k = count_fails at c s e a in (inl k.0, k.1)
      | inr a ↦
          let f = count_takes at c s a.0.0 a.0.1 a.1 in
          let g = guard_err (ltb (length a.0.1) a.0.0) (errors.Short at) e (take a.0.0 a.0.1, drop a.0.0 a.0.1) a.2 in
          (inr (record { number = f.front; rest = a.0.1; n = a.0.0; count = f.is; parts = f.parts; short = ltb-true _ _ g.0 }), g.1)
    ]

no_text : (s : List ℕ) → is_utf8 s ≡ false → IsUtf8 s → ⊥
no_text s n h = let e = is_utf8-from_IsUtf8 s h in cc

pub text_fails : (at : ℕ) (c : Count) (s : List ℕ) (e : PackError) → text_at at c s ≡ Err e → TextWhy at c s e
unfolding text_at
text_fails at c s e h =
    elim (bind_err (chunk_at at c s) (λ t. cond (is_utf8 t.0) (Ok t) (Err (errors.NotUtf8 at))) e h) [
      | inl a ↦ inl (chunk_fails at c s e a)
      | inr a ↦
          let f = chunk_takes at c s a.0.0 a.0.1 a.1 in
          let g = guard_no (is_utf8 a.0.0) (errors.NotUtf8 at) e a.0 a.2 in
          inr (record { chunk = f.front; text = a.0.0; rest = a.0.1; is = f.is; parts = f.parts; no = no_text a.0.0 g.0 }, g.1)
    ]

key_of_fails : (at : ℕ) (m : Marker) (s : List ℕ) (e : PackError) → key_of at m s ≡ Err e → KeyRow at m s e
key_of_fails at (Text c) s e h = text_fails at c s e h
key_of_fails at m s e h = cc

pub key_fails : (end : ℕ) (s : List ℕ) (e : PackError) → key_at end s ≡ Err e → KeyWhy end s e
unfolding key_at
key_fails end [] e h = cc
key_fails end (m ∷ s) e h = key_of_fails (end - length (m ∷ s)) (marker_of m) s e h

-- what `read` refuses is refused for F
abbrev pub Refuses : (List ℕ → Read Tree) → Fault → Type 0
Refuses read F = (s : List ℕ) (e : PackError) → read s ≡ Err e → F s e

module _ (end : ℕ) (read : List ℕ → Read Tree) (P : Spelling) (F : Fault) (reads : Reads read P) (fails : Refuses read F) where
  many_fails : (n : ℕ) (s : List ℕ) (e : PackError) → many read n s ≡ Err e → ListWhy P F n s e
  unfolding many
  many_fails zero s e h = absurd cc
  many_fails (suc n) s e h =
      elim (bind_err (read s) (λ t. many read n t.1 >>= λ ts. Ok (t.0 ∷ ts.0, ts.1)) e h) [
        | inl a ↦ record { done = []; front = []; rest = s; spelled = refl; parts = refl; fewer = omega arith; why = fails s e a }
        | inr a ↦
            elim (bind_err (many read n a.0.1) (λ ts. Ok (a.0.0 ∷ ts.0, ts.1)) e a.2) [
              | inl b ↦
                  let f = reads s a.0.0 a.0.1 a.1 in
                  let w = many_fails n a.0.1 e b in
                  record {
                    done = a.0.0 ∷ w.done;
                    front = f.front ++ w.front;
                    rest = w.rest;
                    spelled = (f.front, w.front, f.is, w.spelled, refl);
                    parts = f.parts ∙ ap (λ (x : List ℕ). f.front ++ x) w.parts ∙ sym (append_assoc f.front w.front w.rest);
                    fewer = omega (arith, w.fewer);
                    why = w.why;
                  }
              | inr b ↦ absurd (let k = b.2 in cc)
            ]
      ]

  pairs_fail : (n : ℕ) (s : List ℕ) (e : PackError) → pairs_at end read n s ≡ Err e → MapWhy end P F n s e
  unfolding pairs_at
  pairs_fail zero s e h = absurd cc
  pairs_fail (suc n) s e h =
      elim (bind_err (key_at end s) (λ k. read k.1 >>= λ t. pairs_at end read n t.1 >>= λ ps. Ok ((k.0, t.0) ∷ ps.0, ps.1)) e h) [
        | inl a ↦ record { done = []; front = []; rest = s; spelled = refl; parts = refl; fewer = omega arith; why = inl (key_fails end s e a) }
        | inr a ↦
            let k = key_takes end s a.0.0 a.0.1 a.1 in
            elim (bind_err (read a.0.1) (λ t. pairs_at end read n t.1 >>= λ ps. Ok ((a.0.0, t.0) ∷ ps.0, ps.1)) e a.2) [
              | inl b ↦ record {
                done = [];
                front = [];
                rest = s;
                spelled = refl;
                parts = refl;
                fewer = omega arith;
                why = inr (record { name = a.0.0; key = k.front; rest = a.0.1; is = k.is; parts = k.parts; why = fails a.0.1 e b });
              }
              | inr b ↦
                  elim (bind_err (pairs_at end read n b.0.1) (λ ps. Ok ((a.0.0, b.0.0) ∷ ps.0, ps.1)) e b.2) [
                    | inl d ↦
                        let f = reads a.0.1 b.0.0 b.0.1 b.1 in
                        let w = pairs_fail n b.0.1 e d in
                        record {
                          done = (a.0.0, b.0.0) ∷ w.done;
                          front = k.front ++ (f.front ++ w.front);
                          rest = w.rest;
                          spelled = (k.front, f.front, w.front, k.is, f.is, w.spelled, refl);
                          parts = k.parts ∙ ap (λ (x : List ℕ). k.front ++ x) (f.parts ∙ ap (λ (x : List ℕ). f.front ++ x) w.parts ∙ sym (append_assoc f.front w.front w.rest)) ∙ sym (append_assoc k.front (f.front ++ w.front) w.rest);
                          fewer = omega (arith, w.fewer);
                          why = w.why;
                        }
                    | inr d ↦ absurd (let g = d.2 in cc)
                  ]
            ]
      ]

  list_fails : (at : ℕ) (c : Count) → Refuses (list_at at (Some read) c) (Inside at (Unit {0}) c (ListWhy P F))
  unfolding list_at
  list_fails at c s e h =
      elim (bind_err (count_at at c s) (λ n. many read n.0 n.1 >>= λ ts. Ok (list (trees ts.0), ts.1)) e h) [
        | inl a ↦ inr (tt, inl (count_fails at c s e a))
        | inr a ↦
            elim (bind_err (many read a.0.0 a.0.1) (λ ts. Ok (list (trees ts.0), ts.1)) e a.2) [
              | inl b ↦ let f = count_takes at c s a.0.0 a.0.1 a.1 in inr (tt, inr (record { number = f.front; rest = a.0.1; n = a.0.0; count = f.is; parts = f.parts; why = many_fails a.0.0 a.0.1 e b }))
              | inr b ↦ absurd (let g = b.2 in cc)
            ]
      ]

  map_fails : (at : ℕ) (c : Count) → Refuses (map_at end at (Some read) c) (Inside at (Unit {0}) c (MapWhy end P F))
  unfolding map_at
  map_fails at c s e h =
      elim (bind_err (count_at at c s) (λ n. pairs_at end read n.0 n.1 >>= λ ps. Ok (map_of ps.0, ps.1)) e h) [
        | inl a ↦ inr (tt, inl (count_fails at c s e a))
        | inr a ↦
            elim (bind_err (pairs_at end read a.0.0 a.0.1) (λ ps. Ok (map_of ps.0, ps.1)) e a.2) [
              | inl b ↦ let f = count_takes at c s a.0.0 a.0.1 a.1 in inr (tt, inr (record { number = f.front; rest = a.0.1; n = a.0.0; count = f.is; parts = f.parts; why = pairs_fail a.0.0 a.0.1 e b }))
              | inr b ↦ absurd (let g = b.2 in cc)
            ]
      ]

pub then_ok : {A B : Type 0} (r : Result A PackError) (f : A → B) (e : PackError) → (r >>= λ x. Ok (f x)) ≡ Err e → r ≡ Err e
then_ok (Ok x) f e h = absurd cc
then_ok (Err d) f e h = cc

module _ (end at : ℕ) (inside : Inner) (Room : Type 0) (P : Spelling) (F : Fault)
    (lists : (c : Count) → Refuses (list_at at inside c) (Inside at Room c (ListWhy P F))) (maps : (c : Count) → Refuses (map_at end at inside c) (Inside at Room c (MapWhy end P F))) where
  row_fails : (m : Marker) → Refuses (value_of end at inside m) (RowWhy end at Room P F m)
  row_fails Null s e h = absurd cc
  row_fails (Truth b) s e h = absurd cc
  row_fails (Small z) s e h = absurd cc
  row_fails (Unsigned size) s e h = number_fails at (width size) s e (then_ok (number_at at (width size) s) (λ n. (int (pos n.0), n.1)) e h)
  row_fails (Signed size) s e h = number_fails at (width size) s e (then_ok (number_at at (width size) s) (λ n. (int (cast_signed (width size) n.0), n.1)) e h)
  row_fails (Text c) s e h = text_fails at c s e (then_ok (text_at at c s) (λ x. (text x.0, x.1)) e h)
  row_fails (Bytes c) s e h = chunk_fails at c s e (then_ok (chunk_at at c s) (λ x. (bytes x.0, x.1)) e h)
  row_fails (ListOf c) s e h = lists c s e h
  row_fails (Map c) s e h = maps c s e h
  row_fails Never s e h = cc
  row_fails Fraction s e h = cc
  row_fails Ext s e h = cc

one_fails : (end : ℕ) (inside : Inner) (Room : Type 0) (P : Spelling) (F : Fault) → ((at : ℕ) (c : Count) → Refuses (list_at at inside c) (Inside at Room c (ListWhy P F))) → ((at : ℕ) (c : Count) → Refuses (map_at end at inside c) (Inside at Room c (MapWhy end P F)))
    → Refuses (one_at end inside) (OneWhy end Room P F)
one_fails end inside Room P F lists maps [] e h = cc
one_fails end inside Room P F lists maps (m ∷ s) e h = let at = end - length (m ∷ s) in row_fails end at inside Room P F (lists at) (maps at) (marker_of m) s e h

no_list : (F : ℕ → Fault) (at : ℕ) (c : Count) → Refuses (list_at at None c) (Inside at ⊥ c F)
unfolding list_at
no_list F at c s e h = inl (λ x. x, cc)

no_map : (end : ℕ) (F : ℕ → Fault) (at : ℕ) (c : Count) → Refuses (map_at end at None c) (Inside at ⊥ c F)
unfolding map_at
no_map end F at c s e h = inl (λ x. x, cc)

pub value_fails : (end room : ℕ) → Refuses (value_at end room) (Why end room)
value_fails end zero = one_fails end None ⊥ NoSpelling NoFault (no_list (ListWhy NoSpelling NoFault)) (no_map end (MapWhy end NoSpelling NoFault))
value_fails end (suc room) =
    let reads = value_takes end room in
    let fails = value_fails end room in
    one_fails end (Some (value_at end room)) (Unit {0}) (Packs room) (Why end room) (list_fails end (value_at end room) (Packs room) (Why end room) reads fails) (map_fails end (value_at end room) (Packs room) (Why end room) reads fails)
