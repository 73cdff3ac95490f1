-- What a value is: a tree of numbers, texts, bytes, lists and maps.
use Rattle.std.specs.Prelude.{ℕ, suc, ℤ, max, List, [], ◌∷◌, Bool, Option, None, Some, if◌then◌else◌}
use Rattle.std.specs.declared.cmp.Ordering.{Ordering}
use Rattle.std.specs.Ordering.{nat_cmp, is_eq}
use Rattle.std.specs.Option.{option_or}
use Rattle.std.specs.Cmp.Lexicographic.{slice_cmp}
use Rattle.std.specs.BTreeMap.{insert_entry}

mutual
  pub data Tree : Type 0 where
    null : Tree
    boolean : Bool → Tree
    int : ℤ → Tree
    text : List ℕ → Tree
    bytes : List ℕ → Tree
    list : Trees → Tree
    map : Pairs → Tree

  pub data Trees : Type 0 where
    no_trees : Trees
    more : Tree → Trees → Trees

  pub data Pairs : Type 0 where
    no_pairs : Pairs
    pair : List ℕ → Tree → Pairs → Pairs

-- how lists and maps nest: one that is empty has depth 1
abbrev mutual
  pub depth : Tree → ℕ
  depth null = 0
  depth (boolean b) = 0
  depth (int z) = 0
  depth (text s) = 0
  depth (bytes s) = 0
  depth (list ts) = suc (depths ts)
  depth (map ps) = suc (depths_of_pairs ps)

  pub depths : Trees → ℕ
  depths no_trees = 0
  depths (more t ts) = max (depth t) (depths ts)

  pub depths_of_pairs : Pairs → ℕ
  depths_of_pairs no_pairs = 0
  depths_of_pairs (pair k t ps) = max (depth t) (depths_of_pairs ps)

-- ---- lists as trees

abbrev pub trees : List Tree → Trees
trees [] = no_trees
trees (t ∷ ts) = more t (trees ts)

abbrev pub Pair : Type 0
Pair = List ℕ × Tree

abbrev pub pairs : List Pair → Pairs
pairs [] = no_pairs
pairs (p ∷ ps) = pair p.0 p.1 (pairs ps)

-- the greatest depth in a list, and 0 where it is empty
abbrev pub depth_of_all : List Tree → ℕ
depth_of_all ts = depths (trees ts)

abbrev pub depth_of_values : List Pair → ℕ
depth_of_values ps = depths_of_pairs (pairs ps)

-- byte order
abbrev pub key_cmp : List ℕ → List ℕ → Ordering
key_cmp = slice_cmp nat_cmp

-- the pairs put in one after another, so the last of a key counts
abbrev pub put_all : List Pair → List Pair → List Pair
put_all es [] = es
put_all es (p ∷ ps) = put_all (insert_entry key_cmp es p.0 p.1) ps

-- the map of these pairs
abbrev pub map_of : List Pair → Tree
map_of ps = map (pairs (put_all [] ps))

-- ---- a map by its keys

abbrev pub is_key : List ℕ → List ℕ → Bool
is_key k l = is_eq (key_cmp k l)

abbrev pub value_in : List ℕ → Pairs → Option Tree
value_in k no_pairs = None
value_in k (pair l t ps) = if is_key k l then Some t else value_in k ps

-- the value that a map has at a key
abbrev pub value_at : List ℕ → Tree → Option Tree
value_at k (map ps) = value_in k ps
value_at k t = None

-- the value in the last pair of a key
abbrev pub last_of : List ℕ → List Pair → Option Tree
last_of k [] = None
last_of k (p ∷ ps) = option_or (last_of k ps) (if is_key k p.0 then Some p.1 else None)
