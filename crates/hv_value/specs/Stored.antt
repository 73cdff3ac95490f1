-- How the logic stores a tree.
use Rattle.std.specs.Prelude.{◌≡◌, ℕ, List, refl}
use Rattle.std.proofs.Common.{ap}
use Rattle.std.specs.Coded.{Coded, coded×, coded_list, coded_bool, coded_ℕ, coded_ℤ}
use base.Stored.{Gv, gnil, gnum, gcons}
use Rattle.hv_value.specs.Tree.{Tree, null, boolean, int, text, bytes, list, map, Trees, no_trees, more, Pairs, no_pairs, pair, Pair}

abbrev head : Gv → Gv
head (gcons a b) = a
head g = gnil

abbrev tail : Gv → Gv
tail (gcons a b) = b
tail g = gnil

abbrev texts_stored : Coded (List ℕ)
texts_stored = coded_list coded_ℕ

abbrev mutual
  pub tree_stored : Tree → Gv
  tree_stored null = gcons (gnum 0) gnil
  tree_stored (boolean b) = gcons (gnum 1) (coded_bool.code b)
  tree_stored (int z) = gcons (gnum 2) (coded_ℤ.code z)
  tree_stored (text s) = gcons (gnum 3) (texts_stored.code s)
  tree_stored (bytes s) = gcons (gnum 4) (texts_stored.code s)
  tree_stored (list ts) = gcons (gnum 5) (trees_stored ts)
  tree_stored (map ps) = gcons (gnum 6) (pairs_stored ps)

  pub trees_stored : Trees → Gv
  trees_stored no_trees = gnil
  trees_stored (more t ts) = gcons (tree_stored t) (trees_stored ts)

  pub pairs_stored : Pairs → Gv
  pairs_stored no_pairs = gnil
  pairs_stored (pair k t ps) = gcons (texts_stored.code k) (gcons (tree_stored t) (pairs_stored ps))

mutual
  pub tree_inj : (x y : Tree) → tree_stored x ≡ tree_stored y → x ≡ y
  tree_inj null null p = refl
  tree_inj (boolean a) (boolean b) p = ap boolean (coded_bool.inj a b (ap tail p))
  tree_inj (int a) (int b) p = ap int (coded_ℤ.inj a b (ap tail p))
  tree_inj (text a) (text b) p = ap text (texts_stored.inj a b (ap tail p))
  tree_inj (bytes a) (bytes b) p = ap bytes (texts_stored.inj a b (ap tail p))
  tree_inj (list a) (list b) p = ap list (trees_inj a b (ap tail p))
  tree_inj (map a) (map b) p = ap map (pairs_inj a b (ap tail p))
  tree_inj x y p = absurd cc

  pub trees_inj : (x y : Trees) → trees_stored x ≡ trees_stored y → x ≡ y
  trees_inj no_trees no_trees p = refl
  trees_inj (more a xs) (more b ys) p = λ i. more (tree_inj a b (ap head p) i) (trees_inj xs ys (ap tail p) i)
  trees_inj x y p = absurd cc

  pub pairs_inj : (x y : Pairs) → pairs_stored x ≡ pairs_stored y → x ≡ y
  pairs_inj no_pairs no_pairs p = refl
  pairs_inj (pair k a xs) (pair l b ys) p = λ i. pair (texts_stored.inj k l (ap head p) i) (tree_inj a b (ap (λ g. head (tail g)) p) i) (pairs_inj xs ys (ap (λ g. tail (tail g)) p) i)
  pairs_inj x y p = absurd cc

abbrev pub tree_code : Coded Tree
tree_code = record { code = tree_stored; inj = tree_inj }

abbrev pub trees_code : Coded (List Tree)
trees_code = coded_list tree_code

abbrev pub pairs_code : Coded (List Pair)
pairs_code = coded_list (coded× texts_stored tree_code)
