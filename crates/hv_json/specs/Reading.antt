-- The value that RFC 8259 text is, or why it is none.
use Rattle.std.specs.Prelude.{◌≡◌, ℕ, pos, List, [], ◌∷◌, Option, Some, None, Result, Ok, Err, nat_lt, if◌then◌else◌}
use Rattle.std.specs.Str.{is_utf8}
use Rattle.serde_json.specs.Data.{Num, unsigned, negative, float, Data, null, boolean, number, string, array, object, Items, no_items, item, Members, no_members, member, depth}
use Rattle.serde_json.specs.Read.{read}
use Rattle.serde_json.specs.Written.{has_float}
use Rattle.hv_value.specs.Tree as tree
use Rattle.hv_value.specs.Tree.{Tree, Pair, map_of}
use Rattle.hv_json.specs.declared.reading.JsonError.{JsonError}
use Rattle.hv_json.specs.declared.reading.JsonError.TheVariants as errors

-- a number that has no fraction; where one has, no tree is read
abbrev pub int_of : Num → Tree
int_of (unsigned n) = tree.int (pos n)
int_of (negative z) = tree.int z
int_of (float x) = tree.null

-- The value that JSON is, if none of its numbers has a fraction. The members that were read are distinct and in order
-- already; `map_of` serves those too that were not read.
abbrev mutual
  pub tree_of : Data → Tree
  tree_of null = tree.null
  tree_of (boolean b) = tree.boolean b
  tree_of (number n) = int_of n
  tree_of (string s) = tree.text s
  tree_of (array ds) = tree.list (tree.trees (trees_of ds))
  tree_of (object ms) = map_of (pairs_of ms)

  pub trees_of : Items → List Tree
  trees_of no_items = []
  trees_of (item d ds) = tree_of d ∷ trees_of ds

  pub pairs_of : Members → List Pair
  pairs_of no_members = []
  pairs_of (member k d ms) = (k, tree_of d) ∷ pairs_of ms

-- The JSON that serde_json reads in the bytes. It chooses what RFC 8259 leaves open: no byte
-- order mark stands before the text; \u of one surrogate alone is no text; no more than 127
-- arrays and objects nest; of the members with one name the last counts; a number with no
-- fraction or exponent from -2^63 to 2^64 - 1 is an integer, and -0 and each other number is
-- the nearest double, or nothing where that isn't finite.
abbrev pub json : List ℕ → Option Data
json b = if is_utf8 b then read b else None

-- the refusals, of which the first that holds is given
abbrev pub judged : Option Data → Result Tree JsonError
judged None = Err errors.NotJson
judged (Some d) =
    if has_float d then Err errors.Fraction
    else (if nat_lt 64 (depth d) then Err errors.TooDeep
    else Ok (tree_of d))

unfoldable pub reading : List ℕ → Result Tree JsonError
reading b = judged (json b)

-- the reading is this refusal, which want of memory isn't
abbrev pub Refuses : JsonError → Result Tree JsonError → Type 0
Refuses errors.NoMemory read = Unit {0}
Refuses e read = read ≡ Err e
