-- The order of keys in every map of a tree.
use Rattle.std.specs.Prelude.{ℕ, List, [], ◌∷◌}
use Rattle.std.specs.List.Sorted.{IsStrictlySortedBy}
use Rattle.hv_value.specs.Tree.{key_cmp, Tree, null, boolean, int, text, bytes, list, map, Trees, no_trees, more, Pairs, no_pairs, pair}

abbrev pub keys_of_pairs : Pairs → List (List ℕ)
keys_of_pairs no_pairs = []
keys_of_pairs (pair k t ps) = k ∷ keys_of_pairs ps

-- the keys of each map are distinct and in byte order
abbrev mutual
  pub IsInOrder : Tree → Type 0
  IsInOrder null = Unit {0}
  IsInOrder (boolean b) = Unit {0}
  IsInOrder (int z) = Unit {0}
  IsInOrder (text s) = Unit {0}
  IsInOrder (bytes s) = Unit {0}
  IsInOrder (list ts) = AllInOrder ts
  IsInOrder (map ps) = IsStrictlySortedBy key_cmp (keys_of_pairs ps) × PairsInOrder ps

  pub AllInOrder : Trees → Type 0
  AllInOrder no_trees = Unit {0}
  AllInOrder (more t ts) = IsInOrder t × AllInOrder ts

  pub PairsInOrder : Pairs → Type 0
  PairsInOrder no_pairs = Unit {0}
  PairsInOrder (pair k t ps) = IsInOrder t × PairsInOrder ps
