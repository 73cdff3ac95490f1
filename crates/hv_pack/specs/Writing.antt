-- The shortest spelling of a value.
use Rattle.std.specs.Prelude.{ℕ, suc, ◌+◌, ◌-◌, ◌^◌, ◌<◌, ℤ, pos, negsuc, Bool, true, false, List, [], ◌∷◌, ◌++◌, length, nat_lt, if◌then◌else◌}
use Rattle.std.specs.Int.{w8, w16, w32, w64, to_be_bytes}
use Rattle.std.specs.Str.{IsUtf8}
use Rattle.hv_value.specs.Whole.{IsWhole}
use Rattle.hv_value.specs.Tree.{Tree, null, boolean, int, text, bytes, list, map, Trees, no_trees, more, Pairs, no_pairs, pair}
use Rattle.hv_pack.specs.Formats.{FIX_MAP, FIX_ARRAY, FIX_STR, NIL, FALSE, TRUE, BIN_8, BIN_16, BIN_32, UINT_8, UINT_16, UINT_32, UINT_64, INT_8, INT_16, INT_32, INT_64, STR_8, STR_16, STR_32, ARRAY_16, ARRAY_32, MAP_16, MAP_32}

unfoldable pub text_head : ℕ → List ℕ
text_head n =
    if nat_lt n 32 then (FIX_STR + n) ∷ [] else
    if nat_lt n (2 ^ 8) then STR_8 ∷ to_be_bytes w8 n else
    if nat_lt n (2 ^ 16) then STR_16 ∷ to_be_bytes w16 n else STR_32 ∷ to_be_bytes w32 n

unfoldable pub bytes_head : ℕ → List ℕ
bytes_head n =
    if nat_lt n (2 ^ 8) then BIN_8 ∷ to_be_bytes w8 n else
    if nat_lt n (2 ^ 16) then BIN_16 ∷ to_be_bytes w16 n else BIN_32 ∷ to_be_bytes w32 n

unfoldable pub list_head : ℕ → List ℕ
list_head n =
    if nat_lt n 16 then (FIX_ARRAY + n) ∷ [] else
    if nat_lt n (2 ^ 16) then ARRAY_16 ∷ to_be_bytes w16 n else ARRAY_32 ∷ to_be_bytes w32 n

unfoldable pub map_head : ℕ → List ℕ
map_head n =
    if nat_lt n 16 then (FIX_MAP + n) ∷ [] else
    if nat_lt n (2 ^ 16) then MAP_16 ∷ to_be_bytes w16 n else MAP_32 ∷ to_be_bytes w32 n

-- a negative number -1 - k has the bytes of all ones less k
unfoldable pub int_text : ℤ → List ℕ
int_text (pos n) =
    if nat_lt n 128 then n ∷ [] else
    if nat_lt n (2 ^ 8) then UINT_8 ∷ to_be_bytes w8 n else
    if nat_lt n (2 ^ 16) then UINT_16 ∷ to_be_bytes w16 n else
    if nat_lt n (2 ^ 32) then UINT_32 ∷ to_be_bytes w32 n else UINT_64 ∷ to_be_bytes w64 n
int_text (negsuc k) =
    if nat_lt k 32 then (255 - k) ∷ [] else
    if nat_lt k (2 ^ 7) then INT_8 ∷ to_be_bytes w8 (2 ^ 8 - 1 - k) else
    if nat_lt k (2 ^ 15) then INT_16 ∷ to_be_bytes w16 (2 ^ 16 - 1 - k) else
    if nat_lt k (2 ^ 31) then INT_32 ∷ to_be_bytes w32 (2 ^ 32 - 1 - k) else INT_64 ∷ to_be_bytes w64 (2 ^ 64 - 1 - k)

abbrev pub bool_text : Bool → List ℕ
bool_text true = TRUE ∷ []
bool_text false = FALSE ∷ []

abbrev pub string_text : List ℕ → List ℕ
string_text s = text_head (length s) ++ s

abbrev pub trees_count : Trees → ℕ
trees_count no_trees = 0
trees_count (more t ts) = suc (trees_count ts)

abbrev pub pairs_count : Pairs → ℕ
pairs_count no_pairs = 0
pairs_count (pair k t ps) = suc (pairs_count ps)

abbrev mutual
  pub shortest : Tree → List ℕ
  shortest null = NIL ∷ []
  shortest (boolean b) = bool_text b
  shortest (int z) = int_text z
  shortest (text s) = string_text s
  shortest (bytes s) = bytes_head (length s) ++ s
  shortest (list ts) = list_head (trees_count ts) ++ trees_text ts
  shortest (map ps) = map_head (pairs_count ps) ++ pairs_text ps

  pub trees_text : Trees → List ℕ
  trees_text no_trees = []
  trees_text (more t ts) = shortest t ++ trees_text ts

  pub pairs_text : Pairs → List ℕ
  pairs_text no_pairs = []
  pairs_text (pair k t ps) = string_text k ++ (shortest t ++ pairs_text ps)

-- each number has at most 64 bits, each text is UTF-8, and nothing in it has 2^32 or more bytes, values or pairs
abbrev mutual
  pub IsWritable : Tree → Type 0
  IsWritable null = Unit {0}
  IsWritable (boolean b) = Unit {0}
  IsWritable (int z) = IsWhole z
  IsWritable (text s) = (length s < 2 ^ 32) × IsUtf8 s
  IsWritable (bytes s) = length s < 2 ^ 32
  IsWritable (list ts) = (trees_count ts < 2 ^ 32) × AreWritable ts
  IsWritable (map ps) = (pairs_count ps < 2 ^ 32) × PairsAreWritable ps

  pub AreWritable : Trees → Type 0
  AreWritable no_trees = Unit {0}
  AreWritable (more t ts) = IsWritable t × AreWritable ts

  pub PairsAreWritable : Pairs → Type 0
  PairsAreWritable no_pairs = Unit {0}
  PairsAreWritable (pair k t ps) = (length k < 2 ^ 32) × IsUtf8 k × IsWritable t × PairsAreWritable ps
