-- The spellings of a value, by one case for each row of the table of markers.
use Rattle.std.specs.Prelude.{◌≡◌, ℕ, zero, suc, pos, List, [], ◌∷◌, ◌++◌, length, drop, ◌+◌}
use Rattle.std.specs.Int.{Width, byte_len, from_be_bytes, cast_signed}
use Rattle.std.specs.Str.{IsUtf8}
use Rattle.hv_value.specs.Tree.{Tree, null, boolean, int, text, bytes, list, Pair, trees, map_of}
use Rattle.hv_pack.specs.declared.marker.Marker.{Marker}
use Rattle.hv_pack.specs.declared.marker.Marker.TheVariants.{Null, Bool as Truth, Small, Unsigned, Signed, Text, Bytes, List as ListOf, Map}
use Rattle.hv_pack.specs.declared.marker.Count.{Count}
use Rattle.hv_pack.specs.declared.marker.Count.TheVariants.{Here, Behind}
use Rattle.hv_pack.specs.Marker.{width, marker_of}

-- the bytes of a number, the highest first
pub record IsNumber (w : Width) (s : List ℕ) (n : ℕ) : Type 0 where
  pub len : length s ≡ byte_len w
  pub value : from_be_bytes w s ≡ n

-- the bytes behind a marker that give its length or count
abbrev pub IsCount : Count → List ℕ → ℕ → Type 0
IsCount (Here k) s n = (s ≡ []) × (k ≡ n)
IsCount (Behind size) s n = IsNumber (width size) s n

-- a count, and so many bytes
pub record IsChunk (c : Count) (s t : List ℕ) : Type 0 where
  pub number : List ℕ
  pub count : IsCount c number (length t)
  pub parts : s ≡ number ++ t

-- a key: a text marker and its text
pub record IsKey (k s : List ℕ) : Type 0 where
  pub marker : ℕ
  pub len : Count
  pub row : marker_of marker ≡ Text len
  pub rest : List ℕ
  pub whole : s ≡ marker ∷ rest
  pub chunk : IsChunk len rest k
  pub utf8 : IsUtf8 k

-- ---- what stands inside a list or a map is spelled by P

abbrev pub Spelling : Type 1
Spelling = Tree → List ℕ → Type 0

abbrev pub SpellsAll : Spelling → List Tree → List ℕ → Type 0
SpellsAll P [] s = s ≡ []
SpellsAll P (t ∷ ts) s = (b : List ℕ) × (rest : List ℕ) × P t b × SpellsAll P ts rest × (s ≡ b ++ rest)

abbrev pub SpellsPairs : Spelling → List Pair → List ℕ → Type 0
SpellsPairs P [] s = s ≡ []
SpellsPairs P (p ∷ ps) s = (k : List ℕ) × (b : List ℕ) × (rest : List ℕ) × IsKey p.0 k × P p.1 b × SpellsPairs P ps rest × (s ≡ k ++ (b ++ rest))

-- the row of the marker, and the bytes behind it; lists and maps only where `Room` holds
abbrev pub Row : Type 0 → Spelling → Marker → Tree → List ℕ → Type 0
Row Room P Null t s = (t ≡ null) × (s ≡ [])
Row Room P (Truth b) t s = (t ≡ boolean b) × (s ≡ [])
Row Room P (Small z) t s = (t ≡ int z) × (s ≡ [])
Row Room P (Unsigned size) t s = (n : ℕ) × (t ≡ int (pos n)) × IsNumber (width size) s n
Row Room P (Signed size) t s = (n : ℕ) × (t ≡ int (cast_signed (width size) n)) × IsNumber (width size) s n
Row Room P (Text c) t s = (x : List ℕ) × (t ≡ text x) × IsChunk c s x × IsUtf8 x
Row Room P (Bytes c) t s = (x : List ℕ) × (t ≡ bytes x) × IsChunk c s x
Row Room P (ListOf c) t s = Room × (ts : List Tree) × (t ≡ list (trees ts)) × (number : List ℕ) × (b : List ℕ) × IsCount c number (length ts) × SpellsAll P ts b × (s ≡ number ++ b)
Row Room P (Map c) t s = Room × (ps : List Pair) × (t ≡ map_of ps) × (number : List ℕ) × (b : List ℕ) × IsCount c number (length ps) × SpellsPairs P ps b × (s ≡ number ++ b)
Row Room P m t s = ⊥

abbrev pub One : Type 0 → Spelling → Spelling
One Room P t s = (m : ℕ) × (rest : List ℕ) × Row Room P (marker_of m) t rest × (s ≡ m ∷ rest)

abbrev pub NoSpelling : Spelling
NoSpelling t s = ⊥

-- the bytes are a spelling of the value, where there is room for so many lists and maps, one in the other
abbrev pub Packs : ℕ → Spelling
Packs zero = One ⊥ NoSpelling
Packs (suc room) = One (Unit {0}) (Packs room)

-- the bytes are a spelling of the value; at most 64 lists and maps stand one in the other
unfoldable pub IsSpelling : Spelling
IsSpelling t s = Packs 64 t s

-- from `at` on, the bytes up to `end` are a spelling of the value
pub record IsSpelled (whole : List ℕ) (at : ℕ) (t : Tree) (end : ℕ) : Type 0 where
  pub spelling : List ℕ
  pub rest : List ℕ
  pub parts : drop at whole ≡ spelling ++ rest
  pub packs : IsSpelling t spelling
  pub ends : end ≡ at + length spelling
