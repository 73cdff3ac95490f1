-- What the markers and numbers of a spelling can be: none is shorter than that of the shortest, or names too large a number.
use Rattle.std.proofs.Common.{◌≡◌, ℕ, ◌+◌, ◌-◌, ◌^◌, ◌<◌, ◌≤◌, Bool, true, false, cond, ltb, eqb, List, [], ◌∷◌, ◌++◌, length, refl, arith, pos, negsuc, ℤ}
use Rattle.std.specs.Int.{w8, w16, w32, w64, cast_signed}
use Rattle.std.specs.List.{AllByRecursion}
use Rattle.std.proofs.lemmas.Bool.{ltb-true, ltb-false}
use Rattle.std.proofs.lemmas.Bool.Decides.{nat_tests}
use Rattle.std.proofs.lemmas.Int.{ints}
use Rattle.hv_value.specs.Whole.{IsWhole}
use Rattle.hv_pack.specs.declared.marker.Marker.{Marker}
use Rattle.hv_pack.specs.declared.marker.Marker.TheVariants.{Small, Text, Bytes, List as ListOf, Map}
use Rattle.hv_pack.specs.declared.marker.Count.{Count}
use Rattle.hv_pack.specs.declared.marker.Count.TheVariants.{Here, Behind}
use Rattle.hv_pack.specs.declared.marker.Size.{Size}
use Rattle.hv_pack.specs.declared.marker.Size.TheVariants.{One, Two, Four, Eight}
use Rattle.hv_pack.specs.Marker.{width, marker_of}
use Rattle.hv_pack.specs.Formats.{FIX_MAP, FIX_ARRAY, FIX_STR, NIL, NEVER_USED, FALSE, TRUE, BIN_8, BIN_16, BIN_32, FLOAT, UINT_8, UINT_16, UINT_32, UINT_64, INT_8, INT_16, INT_32, INT_64, STR_8, STR_16, STR_32, ARRAY_16, ARRAY_32, MAP_16, MAP_32}
use Rattle.hv_pack.specs.Packs.{IsNumber, IsCount}
use Rattle.hv_pack.specs.Writing.{text_head, bytes_head, list_head, map_head, int_text}
use Rattle.hv_pack.proofs.Heads.{pick}

abbrev pub AreBytes : List ℕ → Type 0
AreBytes s = AllByRecursion (λ b. b < 2 ^ 8) s

pub parts : (a b : List ℕ) → AreBytes (a ++ b) → AreBytes a × AreBytes b
parts [] b h = (tt, h)
parts (x ∷ a) b h = let k = parts a b h.1 in ((h.0, k.0), k.1)

-- ---- numbers

pub number_1 : (s : List ℕ) (n : ℕ) → AreBytes s → IsNumber w8 s n → n < 2 ^ 8
number_1 (a ∷ []) n b h = let v = h.value in omega (arith, b.0)
number_1 s n b h = absurd (let l = h.len in omega arith)

pub number_2 : (s : List ℕ) (n : ℕ) → AreBytes s → IsNumber w16 s n → n < 2 ^ 16
number_2 (a ∷ c ∷ []) n b h = let v = h.value in omega (arith, b.0, b.1.0)
number_2 s n b h = absurd (let l = h.len in omega arith)

pub number_4 : (s : List ℕ) (n : ℕ) → AreBytes s → IsNumber w32 s n → n < 2 ^ 32
number_4 (a ∷ c ∷ d ∷ e ∷ []) n b h = let v = h.value in omega (arith, b.0, b.1.0, b.1.1.0, b.1.1.1.0)
number_4 s n b h = absurd (let l = h.len in omega arith)

pub number_8 : (s : List ℕ) (n : ℕ) → AreBytes s → IsNumber w64 s n → n < 2 ^ 64
number_8 (a ∷ c ∷ d ∷ e ∷ f ∷ g ∷ i ∷ j ∷ []) n b h = let v = h.value in omega (arith, b.0, b.1.0, b.1.1.0, b.1.1.1.0, b.1.1.1.1.0, b.1.1.1.1.1.0, b.1.1.1.1.1.1.0, b.1.1.1.1.1.1.1.0)
number_8 s n b h = absurd (let l = h.len in omega arith)

pub pos_whole : (n : ℕ) → n < 2 ^ 64 → IsWhole (pos n)
pos_whole n lt = (omega (arith, ints), omega (arith, ints))

pub neg_whole : (k : ℕ) → k < 2 ^ 63 → IsWhole (negsuc k)
neg_whole k lt = (omega (arith, ints), omega (arith, ints))

len_pos_1 : (n : ℕ) → n < 2 ^ 8 → length (int_text (pos n)) ≤ 2
unfolding int_text
len_pos_1 n lt =
    let Q : List ℕ → Type 0 = λ s. length s ≤ 2 in
    pick Q (ltb n 128) _ _ (λ e. omega arith) (λ e. pick Q (ltb n (2 ^ 8)) _ _ (λ e. omega arith) (λ e. let k = ltb-false _ _ e in absurd (omega arith)))

len_pos_2 : (n : ℕ) → n < 2 ^ 16 → length (int_text (pos n)) ≤ 3
unfolding int_text
len_pos_2 n lt =
    let Q : List ℕ → Type 0 = λ s. length s ≤ 3 in
    pick Q (ltb n 128) _ _ (λ e. omega arith) (λ e. pick Q (ltb n (2 ^ 8)) _ _ (λ e. omega arith) (λ e. pick Q (ltb n (2 ^ 16)) _ _ (λ e. omega arith) (λ e. let k = ltb-false _ _ e in absurd (omega arith))))

len_pos_4 : (n : ℕ) → n < 2 ^ 32 → length (int_text (pos n)) ≤ 5
unfolding int_text
len_pos_4 n lt =
    let Q : List ℕ → Type 0 = λ s. length s ≤ 5 in
    pick Q (ltb n 128) _ _ (λ e. omega arith) (λ e. pick Q (ltb n (2 ^ 8)) _ _ (λ e. omega arith) (λ e. pick Q (ltb n (2 ^ 16)) _ _ (λ e. omega arith) (λ e. pick Q (ltb n (2 ^ 32)) _ _ (λ e. omega arith) (λ e. let k = ltb-false _ _ e in absurd (omega arith)))))

len_pos_8 : (n : ℕ) → length (int_text (pos n)) ≤ 9
unfolding int_text
len_pos_8 n =
    let Q : List ℕ → Type 0 = λ s. length s ≤ 9 in
    pick Q (ltb n 128) _ _ (λ e. omega arith) (λ e. pick Q (ltb n (2 ^ 8)) _ _ (λ e. omega arith) (λ e. pick Q (ltb n (2 ^ 16)) _ _ (λ e. omega arith) (λ e. pick Q (ltb n (2 ^ 32)) _ _ (λ e. omega arith) (λ e. omega arith))))

len_neg_1 : (k : ℕ) → k < 2 ^ 7 → length (int_text (negsuc k)) ≤ 2
unfolding int_text
len_neg_1 n lt =
    let Q : List ℕ → Type 0 = λ s. length s ≤ 2 in
    pick Q (ltb n 32) _ _ (λ e. omega arith) (λ e. pick Q (ltb n (2 ^ 7)) _ _ (λ e. omega arith) (λ e. let k = ltb-false _ _ e in absurd (omega arith)))

len_neg_2 : (k : ℕ) → k < 2 ^ 15 → length (int_text (negsuc k)) ≤ 3
unfolding int_text
len_neg_2 n lt =
    let Q : List ℕ → Type 0 = λ s. length s ≤ 3 in
    pick Q (ltb n 32) _ _ (λ e. omega arith) (λ e. pick Q (ltb n (2 ^ 7)) _ _ (λ e. omega arith) (λ e. pick Q (ltb n (2 ^ 15)) _ _ (λ e. omega arith) (λ e. let k = ltb-false _ _ e in absurd (omega arith))))

len_neg_4 : (k : ℕ) → k < 2 ^ 31 → length (int_text (negsuc k)) ≤ 5
unfolding int_text
len_neg_4 n lt =
    let Q : List ℕ → Type 0 = λ s. length s ≤ 5 in
    pick Q (ltb n 32) _ _ (λ e. omega arith) (λ e. pick Q (ltb n (2 ^ 7)) _ _ (λ e. omega arith) (λ e. pick Q (ltb n (2 ^ 15)) _ _ (λ e. omega arith) (λ e. pick Q (ltb n (2 ^ 31)) _ _ (λ e. omega arith) (λ e. let k = ltb-false _ _ e in absurd (omega arith)))))

len_neg_8 : (k : ℕ) → length (int_text (negsuc k)) ≤ 9
unfolding int_text
len_neg_8 n =
    let Q : List ℕ → Type 0 = λ s. length s ≤ 9 in
    pick Q (ltb n 32) _ _ (λ e. omega arith) (λ e. pick Q (ltb n (2 ^ 7)) _ _ (λ e. omega arith) (λ e. pick Q (ltb n (2 ^ 15)) _ _ (λ e. omega arith) (λ e. pick Q (ltb n (2 ^ 31)) _ _ (λ e. omega arith) (λ e. omega arith))))

-- what a marker in the table can be
abbrev pub Fits : Marker → Type 0
Fits (Small z) = (length (int_text z) ≤ 1) × IsWhole z
Fits (Text (Here k)) = k < 32
Fits (Text (Behind Eight)) = ⊥
Fits (Bytes (Here k)) = ⊥
Fits (Bytes (Behind Eight)) = ⊥
Fits (ListOf (Here k)) = k < 16
Fits (ListOf (Behind One)) = ⊥
Fits (ListOf (Behind Eight)) = ⊥
Fits (Map (Here k)) = k < 16
Fits (Map (Behind One)) = ⊥
Fits (Map (Behind Eight)) = ⊥
Fits m = Unit {0}

choose : (b : Bool) (x y : Marker) → (b ≡ true → Fits x) → (b ≡ false → Fits y) → Fits (cond b x y)
choose true x y f g = f refl
choose false x y f g = g refl

small_pos : (n : ℕ) → n < 128 → length (int_text (pos n)) ≤ 1
unfolding int_text
small_pos n lt = pick (λ s. length s ≤ 1) (ltb n 128) _ _ (λ e. omega arith) (λ e. let k = ltb-false _ _ e in absurd (omega arith))

small_neg : (k : ℕ) → k < 32 → length (int_text (negsuc k)) ≤ 1
unfolding int_text
small_neg n lt = pick (λ s. length s ≤ 1) (ltb n 32) _ _ (λ e. omega arith) (λ e. let k = ltb-false _ _ e in absurd (omega arith))

by_lt : {P : Type 0} (a b : ℕ) → (a < b → P) → (b ≤ a → P) → P
by_lt {P} a b f g = go (ltb a b) refl
  where
    go : (t : Bool) → ltb a b ≡ t → P
    go true e = f (ltb-true _ _ e)
    go false e = g (ltb-false _ _ e)

pub signed_1 : (P : ℤ → Type 0) (n : ℕ) → n < 2 ^ 8 → (n < 2 ^ 7 → P (pos n)) → ((k : ℕ) → k < 2 ^ 7 → P (negsuc k)) → P (cast_signed w8 n)
signed_1 P n lt f g = by_lt n (2 ^ 7)
    (λ k. let e : cast_signed w8 n ≡ pos n = grind (arith, nat_tests) in rw e (f k))
    (λ k. let e : cast_signed w8 n ≡ negsuc (2 ^ 8 - 1 - n) = grind (arith, nat_tests) in rw e (g (2 ^ 8 - 1 - n) (omega arith)))

pub signed_2 : (P : ℤ → Type 0) (n : ℕ) → n < 2 ^ 16 → (n < 2 ^ 15 → P (pos n)) → ((k : ℕ) → k < 2 ^ 15 → P (negsuc k)) → P (cast_signed w16 n)
signed_2 P n lt f g = by_lt n (2 ^ 15)
    (λ k. let e : cast_signed w16 n ≡ pos n = grind (arith, nat_tests) in rw e (f k))
    (λ k. let e : cast_signed w16 n ≡ negsuc (2 ^ 16 - 1 - n) = grind (arith, nat_tests) in rw e (g (2 ^ 16 - 1 - n) (omega arith)))

pub signed_4 : (P : ℤ → Type 0) (n : ℕ) → n < 2 ^ 32 → (n < 2 ^ 31 → P (pos n)) → ((k : ℕ) → k < 2 ^ 31 → P (negsuc k)) → P (cast_signed w32 n)
signed_4 P n lt f g = by_lt n (2 ^ 31)
    (λ k. let e : cast_signed w32 n ≡ pos n = grind (arith, nat_tests) in rw e (f k))
    (λ k. let e : cast_signed w32 n ≡ negsuc (2 ^ 32 - 1 - n) = grind (arith, nat_tests) in rw e (g (2 ^ 32 - 1 - n) (omega arith)))

pub signed_8 : (P : ℤ → Type 0) (n : ℕ) → n < 2 ^ 64 → (n < 2 ^ 63 → P (pos n)) → ((k : ℕ) → k < 2 ^ 63 → P (negsuc k)) → P (cast_signed w64 n)
signed_8 P n lt f g = by_lt n (2 ^ 63)
    (λ k. let e : cast_signed w64 n ≡ pos n = grind (arith, nat_tests) in rw e (f k))
    (λ k. let e : cast_signed w64 n ≡ negsuc (2 ^ 64 - 1 - n) = grind (arith, nat_tests) in rw e (g (2 ^ 64 - 1 - n) (omega arith)))

int_len_8 : (z : ℤ) → length (int_text z) ≤ 9
int_len_8 (pos n) = len_pos_8 n
int_len_8 (negsuc k) = len_neg_8 k

pub unsigned_least : (size : Size) (s : List ℕ) (n : ℕ) → AreBytes s → IsNumber (width size) s n → length (int_text (pos n)) ≤ 1 + length s
unsigned_least One s n b h = let l = h.len in let k = len_pos_1 n (number_1 s n b h) in omega arith
unsigned_least Two s n b h = let l = h.len in let k = len_pos_2 n (number_2 s n b h) in omega arith
unsigned_least Four s n b h = let l = h.len in let k = len_pos_4 n (number_4 s n b h) in omega arith
unsigned_least Eight s n b h = let l = h.len in let k = len_pos_8 n in omega arith

pub signed_least : (size : Size) (s : List ℕ) (n : ℕ) → AreBytes s → IsNumber (width size) s n → length (int_text (cast_signed (width size) n)) ≤ 1 + length s
signed_least One s n b h = let l = h.len in let lt = number_1 s n b h in let k = signed_1 (λ z. length (int_text z) ≤ 2) n lt (λ _. len_pos_1 n lt) len_neg_1 in omega arith
signed_least Two s n b h = let l = h.len in let lt = number_2 s n b h in let k = signed_2 (λ z. length (int_text z) ≤ 3) n lt (λ _. len_pos_2 n lt) len_neg_2 in omega arith
signed_least Four s n b h = let l = h.len in let lt = number_4 s n b h in let k = signed_4 (λ z. length (int_text z) ≤ 5) n lt (λ _. len_pos_4 n lt) len_neg_4 in omega arith
signed_least Eight s n b h = let l = h.len in let k = int_len_8 (cast_signed w64 n) in omega arith

-- ---- heads

module _ (n : ℕ) where
  text_0 : n < 32 → length (text_head n) ≤ 1
  unfolding text_head
  text_0 lt = pick (λ s. length s ≤ 1) (ltb n 32) _ _ (λ e. omega arith) (λ e. let k = ltb-false _ _ e in absurd (omega arith))

  text_1 : n < 2 ^ 8 → length (text_head n) ≤ 2
  unfolding text_head
  text_1 lt = let Q : List ℕ → Type 0 = λ s. length s ≤ 2 in pick Q (ltb n 32) _ _ (λ e. omega arith) (λ e. pick Q (ltb n (2 ^ 8)) _ _ (λ e. omega arith) (λ e. let k = ltb-false _ _ e in absurd (omega arith)))

  text_2 : n < 2 ^ 16 → length (text_head n) ≤ 3
  unfolding text_head
  text_2 lt = let Q : List ℕ → Type 0 = λ s. length s ≤ 3 in pick Q (ltb n 32) _ _ (λ e. omega arith) (λ e. pick Q (ltb n (2 ^ 8)) _ _ (λ e. omega arith) (λ e. pick Q (ltb n (2 ^ 16)) _ _ (λ e. omega arith) (λ e. let k = ltb-false _ _ e in absurd (omega arith))))

  text_4 : length (text_head n) ≤ 5
  unfolding text_head
  text_4 = let Q : List ℕ → Type 0 = λ s. length s ≤ 5 in pick Q (ltb n 32) _ _ (λ e. omega arith) (λ e. pick Q (ltb n (2 ^ 8)) _ _ (λ e. omega arith) (λ e. pick Q (ltb n (2 ^ 16)) _ _ (λ e. omega arith) (λ e. omega arith)))

  bytes_1 : n < 2 ^ 8 → length (bytes_head n) ≤ 2
  unfolding bytes_head
  bytes_1 lt = let Q : List ℕ → Type 0 = λ s. length s ≤ 2 in pick Q (ltb n (2 ^ 8)) _ _ (λ e. omega arith) (λ e. let k = ltb-false _ _ e in absurd (omega arith))

  bytes_2 : n < 2 ^ 16 → length (bytes_head n) ≤ 3
  unfolding bytes_head
  bytes_2 lt = let Q : List ℕ → Type 0 = λ s. length s ≤ 3 in pick Q (ltb n (2 ^ 8)) _ _ (λ e. omega arith) (λ e. pick Q (ltb n (2 ^ 16)) _ _ (λ e. omega arith) (λ e. let k = ltb-false _ _ e in absurd (omega arith)))

  bytes_4 : length (bytes_head n) ≤ 5
  unfolding bytes_head
  bytes_4 = let Q : List ℕ → Type 0 = λ s. length s ≤ 5 in pick Q (ltb n (2 ^ 8)) _ _ (λ e. omega arith) (λ e. pick Q (ltb n (2 ^ 16)) _ _ (λ e. omega arith) (λ e. omega arith))

  list_0 : n < 16 → length (list_head n) ≤ 1
  unfolding list_head
  list_0 lt = pick (λ s. length s ≤ 1) (ltb n 16) _ _ (λ e. omega arith) (λ e. let k = ltb-false _ _ e in absurd (omega arith))

  list_2 : n < 2 ^ 16 → length (list_head n) ≤ 3
  unfolding list_head
  list_2 lt = let Q : List ℕ → Type 0 = λ s. length s ≤ 3 in pick Q (ltb n 16) _ _ (λ e. omega arith) (λ e. pick Q (ltb n (2 ^ 16)) _ _ (λ e. omega arith) (λ e. let k = ltb-false _ _ e in absurd (omega arith)))

  list_4 : length (list_head n) ≤ 5
  unfolding list_head
  list_4 = let Q : List ℕ → Type 0 = λ s. length s ≤ 5 in pick Q (ltb n 16) _ _ (λ e. omega arith) (λ e. pick Q (ltb n (2 ^ 16)) _ _ (λ e. omega arith) (λ e. omega arith))

  map_0 : n < 16 → length (map_head n) ≤ 1
  unfolding map_head
  map_0 lt = pick (λ s. length s ≤ 1) (ltb n 16) _ _ (λ e. omega arith) (λ e. let k = ltb-false _ _ e in absurd (omega arith))

  map_2 : n < 2 ^ 16 → length (map_head n) ≤ 3
  unfolding map_head
  map_2 lt = let Q : List ℕ → Type 0 = λ s. length s ≤ 3 in pick Q (ltb n 16) _ _ (λ e. omega arith) (λ e. pick Q (ltb n (2 ^ 16)) _ _ (λ e. omega arith) (λ e. let k = ltb-false _ _ e in absurd (omega arith)))

  map_4 : length (map_head n) ≤ 5
  unfolding map_head
  map_4 = let Q : List ℕ → Type 0 = λ s. length s ≤ 5 in pick Q (ltb n 16) _ _ (λ e. omega arith) (λ e. pick Q (ltb n (2 ^ 16)) _ _ (λ e. omega arith) (λ e. omega arith))

pub text_least : (c : Count) (s : List ℕ) (n : ℕ) → Fits (Text c) → AreBytes s → IsCount c s n → length (text_head n) ≤ 1 + length s
text_least (Here k) s n f b h = let e = h.1 in let l = text_0 n (omega arith) in omega arith
text_least (Behind One) s n f b h = let e = h.len in let l = text_1 n (number_1 s n b h) in omega arith
text_least (Behind Two) s n f b h = let e = h.len in let l = text_2 n (number_2 s n b h) in omega arith
text_least (Behind Four) s n f b h = let e = h.len in let l = text_4 n in omega arith
text_least (Behind Eight) s n f b h = absurd f

pub bytes_least : (c : Count) (s : List ℕ) (n : ℕ) → Fits (Bytes c) → AreBytes s → IsCount c s n → length (bytes_head n) ≤ 1 + length s
bytes_least (Here k) s n f b h = absurd f
bytes_least (Behind One) s n f b h = let e = h.len in let l = bytes_1 n (number_1 s n b h) in omega arith
bytes_least (Behind Two) s n f b h = let e = h.len in let l = bytes_2 n (number_2 s n b h) in omega arith
bytes_least (Behind Four) s n f b h = let e = h.len in let l = bytes_4 n in omega arith
bytes_least (Behind Eight) s n f b h = absurd f

pub list_least : (c : Count) (s : List ℕ) (n : ℕ) → Fits (ListOf c) → AreBytes s → IsCount c s n → length (list_head n) ≤ 1 + length s
list_least (Here k) s n f b h = let e = h.1 in let l = list_0 n (omega arith) in omega arith
list_least (Behind One) s n f b h = absurd f
list_least (Behind Two) s n f b h = let e = h.len in let l = list_2 n (number_2 s n b h) in omega arith
list_least (Behind Four) s n f b h = let e = h.len in let l = list_4 n in omega arith
list_least (Behind Eight) s n f b h = absurd f

-- of no more pairs than were counted
pub map_least : (c : Count) (s : List ℕ) (n m : ℕ) → m ≤ n → Fits (Map c) → AreBytes s → IsCount c s n → length (map_head m) ≤ 1 + length s
map_least (Here k) s n m le f b h = let e = h.1 in let l = map_0 m (omega arith) in omega arith
map_least (Behind One) s n m le f b h = absurd f
map_least (Behind Two) s n m le f b h = let e = h.len in let lt = number_2 s n b h in let l = map_2 m (omega arith) in omega arith
map_least (Behind Four) s n m le f b h = let e = h.len in let l = map_4 m in omega arith
map_least (Behind Eight) s n m le f b h = absurd f

-- ---- rows of the table

either : (b : Bool) (x y : Marker) → Fits x → Fits y → Fits (cond b x y)
either true x y f g = f
either false x y f g = g

last : (b : ℕ) → ltb b STR_8 ≡ false → eqb b STR_8 ≡ false → eqb b STR_16 ≡ false → eqb b STR_32 ≡ false → eqb b ARRAY_16 ≡ false → eqb b ARRAY_32 ≡ false → eqb b MAP_16 ≡ false → eqb b MAP_32 ≡ false → 255 - b < 32
last b e0 e1 e2 e3 e4 e5 e6 e7 = grind (arith, nat_tests)

pub fits : (b : ℕ) → Fits (marker_of b)
unfolding marker_of
fits b =
    choose (ltb b FIX_MAP) _ _ (λ e. let k = ltb-true _ _ e in (small_pos b k, pos_whole b (omega arith)))
    (λ p. choose (ltb b FIX_ARRAY) _ _ (λ e. let k = ltb-true _ _ e in omega arith)
    (λ q. choose (ltb b FIX_STR) _ _ (λ e. let k = ltb-true _ _ e in omega arith)
    (λ r. choose (ltb b NIL) _ _ (λ e. let k = ltb-true _ _ e in omega arith)
    (λ t. either (eqb b NIL) _ _ tt (either (eqb b NEVER_USED) _ _ tt (either (eqb b FALSE) _ _ tt (either (eqb b TRUE) _ _ tt (either (eqb b BIN_8) _ _ tt (either (eqb b BIN_16) _ _ tt (either (eqb b BIN_32) _ _ tt (either (ltb b FLOAT) _ _ tt (either (ltb b UINT_8) _ _ tt (either (eqb b UINT_8) _ _ tt (either (eqb b UINT_16) _ _ tt (either (eqb b UINT_32) _ _ tt (either (eqb b UINT_64) _ _ tt (either (eqb b INT_8) _ _ tt (either (eqb b INT_16) _ _ tt (either (eqb b INT_32) _ _ tt (either (eqb b INT_64) _ _ tt (choose (ltb b STR_8) _ _ (λ e. tt) (λ e0. choose (eqb b STR_8) _ _ (λ e. tt) (λ e1. choose (eqb b STR_16) _ _ (λ e. tt) (λ e2. choose (eqb b STR_32) _ _ (λ e. tt) (λ e3. choose (eqb b ARRAY_16) _ _ (λ e. tt) (λ e4. choose (eqb b ARRAY_32) _ _ (λ e. tt) (λ e5. choose (eqb b MAP_16) _ _ (λ e. tt) (λ e6. choose (eqb b MAP_32) _ _ (λ e. tt) (λ e7. let k = last b e0 e1 e2 e3 e4 e5 e6 e7 in (small_neg (255 - b) k, neg_whole (255 - b) (omega arith)))))))))))))))))))))))))))))))
