-- The test whether two trees are the same.
use Rattle.std.specs.Prelude.{ℕ, Bool, true, false, ◌&&◌, ◌==◌, List}
use Rattle.std.specs.Ordering.{int_eq}
use Rattle.std.specs.Cmp.Lexicographic.{pointwise}
use Rattle.hv_value.specs.Tree.{Tree, null, boolean, int, text, bytes, list, map, Trees, no_trees, more, Pairs, no_pairs, pair}

abbrev pub same_bytes : List ℕ → List ℕ → Bool
same_bytes = pointwise (λ x y. x == y)

abbrev pub same_bool : Bool → Bool → Bool
same_bool true true = true
same_bool false false = true
same_bool x y = false

abbrev mutual
  pub same_tree : Tree → Tree → Bool
  same_tree null null = true
  same_tree (boolean a) (boolean b) = same_bool a b
  same_tree (int a) (int b) = int_eq a b
  same_tree (text a) (text b) = same_bytes a b
  same_tree (bytes a) (bytes b) = same_bytes a b
  same_tree (list a) (list b) = same_trees a b
  same_tree (map a) (map b) = same_pairs a b
  same_tree a b = false

  pub same_trees : Trees → Trees → Bool
  same_trees no_trees no_trees = true
  same_trees (more a xs) (more b ys) = same_tree a b && same_trees xs ys
  same_trees a b = false

  pub same_pairs : Pairs → Pairs → Bool
  same_pairs no_pairs no_pairs = true
  same_pairs (pair k a xs) (pair l b ys) = (same_bytes k l && same_tree a b) && same_pairs xs ys
  same_pairs a b = false
