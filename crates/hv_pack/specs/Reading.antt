-- The reader as a function of the bytes that are left, so that each part of it has its clause; read_value itself is
-- pinned by Packs and Why alone. A place is the end less the length of what is left.
use Rattle.std.specs.Prelude.{ℕ, zero, suc, ◌-◌, pos, List, [], ◌∷◌, length, take, drop, Option, Some, None, Result, Ok, Err, nat_lt, if◌then◌else◌}
use Rattle.std.specs.Int.{Width, byte_len, from_be_bytes, cast_signed}
use Rattle.std.specs.Str.{is_utf8}
use Rattle.hv_value.specs.Tree.{Tree, null, boolean, int, text, bytes, list, Pair, trees, map_of}
use Rattle.hv_value.specs.View.{tree}
use Rattle.hv_value.specs.declared.value.Value.{Value}
use Rattle.hv_pack.specs.declared.error.PackError.{PackError}
use Rattle.hv_pack.specs.declared.error.PackError.TheVariants as errors
use Rattle.hv_pack.specs.declared.marker.Marker.{Marker}
use Rattle.hv_pack.specs.declared.marker.Marker.TheVariants.{Null, Bool, Small, Unsigned, Signed, Text, Bytes, List as ListOf, Map, Never, Fraction, Ext}
use Rattle.hv_pack.specs.declared.marker.Count.{Count}
use Rattle.hv_pack.specs.declared.marker.Count.TheVariants.{Here, Behind}
use Rattle.hv_pack.specs.Marker.{width, marker_of}
pub use Rattle.hv_pack.specs.Cut.{Fails, Gives, Read, cut}

infixl 10 ◌>>=◌
abbrev pub ◌>>=◌ : {A B : Type 0} → Result A PackError → (A → Result B PackError) → Result B PackError
(Ok x) >>= f = f x
(Err e) >>= f = Err e

-- ---- parts of one marker, which stands at `at`

abbrev pub number_at : ℕ → Width → List ℕ → Read ℕ
number_at at w s = if nat_lt (length s) (byte_len w) then Err (errors.Short at) else Ok (from_be_bytes w (take (byte_len w) s), drop (byte_len w) s)

abbrev pub count_at : ℕ → Count → List ℕ → Read ℕ
count_at at (Here n) s = Ok (n, s)
count_at at (Behind size) s = number_at at (width size) s

unfoldable pub chunk_at : ℕ → Count → List ℕ → Read (List ℕ)
chunk_at at c s = do
  n ← count_at at c s
  cut at n.0 n.1

unfoldable pub text_at : ℕ → Count → List ℕ → Read (List ℕ)
text_at at c s = do
  t ← chunk_at at c s
  if is_utf8 t.0 then Ok t else Err (errors.NotUtf8 at)

-- ---- many values, where `read` reads one

unfoldable pub many : (List ℕ → Read Tree) → ℕ → List ℕ → Read (List Tree)
many read zero s = Ok ([], s)
many read (suc n) s = do
  t ← read s
  ts ← many read n t.1
  Ok (t.0 ∷ ts.0, ts.1)

abbrev pub key_of : ℕ → Marker → List ℕ → Read (List ℕ)
key_of at (Text c) s = text_at at c s
key_of at m s = Err (errors.Key at)

unfoldable pub key_at : ℕ → List ℕ → Read (List ℕ)
key_at end [] = Err (errors.Short end)
key_at end (m ∷ s) = key_of (end - length (m ∷ s)) (marker_of m) s

unfoldable pub pairs_at : ℕ → (List ℕ → Read Tree) → ℕ → List ℕ → Read (List Pair)
pairs_at end read zero s = Ok ([], s)
pairs_at end read (suc n) s = do
  k ← key_at end s
  t ← read k.1
  ps ← pairs_at end read n t.1
  Ok ((k.0, t.0) ∷ ps.0, ps.1)

-- ---- one value. The values inside a list or a map are read by `inner`; there is none where 64 stand round it.

abbrev pub Inner : Type 0
Inner = Option (List ℕ → Read Tree)

unfoldable pub list_at : ℕ → Inner → Count → List ℕ → Read Tree
list_at at None c s = Err (errors.TooDeep at)
list_at at (Some read) c s = do
  n ← count_at at c s
  ts ← many read n.0 n.1
  Ok (list (trees ts.0), ts.1)

unfoldable pub map_at : ℕ → ℕ → Inner → Count → List ℕ → Read Tree
map_at end at None c s = Err (errors.TooDeep at)
map_at end at (Some read) c s = do
  n ← count_at at c s
  ps ← pairs_at end read n.0 n.1
  Ok (map_of ps.0, ps.1)

abbrev pub value_of : ℕ → ℕ → Inner → Marker → List ℕ → Read Tree
value_of end at inner Null s = Ok (null, s)
value_of end at inner (Bool b) s = Ok (boolean b, s)
value_of end at inner (Small z) s = Ok (int z, s)
value_of end at inner (Unsigned size) s = number_at at (width size) s >>= λ n. Ok (int (pos n.0), n.1)
value_of end at inner (Signed size) s = number_at at (width size) s >>= λ n. Ok (int (cast_signed (width size) n.0), n.1)
value_of end at inner (Text c) s = text_at at c s >>= λ t. Ok (text t.0, t.1)
value_of end at inner (Bytes c) s = chunk_at at c s >>= λ t. Ok (bytes t.0, t.1)
value_of end at inner (ListOf c) s = list_at at inner c s
value_of end at inner (Map c) s = map_at end at inner c s
value_of end at inner Never s = Err (errors.Never at)
value_of end at inner Fraction s = Err (errors.Fraction at)
value_of end at inner Ext s = Err (errors.Ext at)

abbrev pub one_at : ℕ → Inner → List ℕ → Read Tree
one_at end inner [] = Err (errors.Short end)
one_at end inner (m ∷ s) = value_of end (end - length (m ∷ s)) inner (marker_of m) s

-- what reads the values inside, where there is room for so many lists and maps, one in the other
abbrev pub inner : ℕ → ℕ → Inner
inner end zero = None
inner end (suc room) = Some (one_at end (inner end room))

abbrev pub value_at : ℕ → ℕ → List ℕ → Read Tree
value_at end room s = one_at end (inner end room) s

-- the value at a place, and the place after it
unfoldable pub read_at : List ℕ → ℕ → Result (Tree × ℕ) PackError
read_at b at = value_at (length b) 64 (drop at b) >>= λ x. Ok (x.0, length b - length x.1)

-- a value that was read, seen as its tree, and the place after it
abbrev pub placed : Value × ℕ → Tree × ℕ
placed x = (tree x.0, x.1)
