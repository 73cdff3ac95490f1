-- The test whether two trees are the same tells them apart exactly where they differ.
use Rattle.std.proofs.Common.{◌≡◌, Bool, true, false, ◌&&◌, refl, ap}
use Rattle.std.specs.Cmp.Lexicographic.{bytes_decides}
use Rattle.std.specs.Cmp.{IsEquivalence, both_ways, signed_Decides}
use Rattle.hv_value.specs.Tree.{Tree, null, boolean, int, text, bytes, list, map, Trees, no_trees, more, Pairs, no_pairs, pair}
use Rattle.hv_value.specs.Same.{same_bool, same_tree, same_trees, same_pairs}

both_true : (a b : Bool) → a && b ≡ true → (a ≡ true) × (b ≡ true)
both_true true true e = (refl, refl)
both_true true false e = absurd cc
both_true false b e = absurd cc

bools : (a b : Bool) → same_bool a b ≡ true → a ≡ b
bools true true e = refl
bools false false e = refl
bools true false e = absurd cc
bools false true e = absurd cc

mutual
  pub same_is : (a b : Tree) → same_tree a b ≡ true → a ≡ b
  same_is null null e = refl
  same_is (boolean a) (boolean b) e = ap boolean (bools a b e)
  same_is (int a) (int b) e = ap int ((signed_Decides a b).0 e)
  same_is (text a) (text b) e = ap text ((bytes_decides a b).0 e)
  same_is (bytes a) (bytes b) e = ap bytes ((bytes_decides a b).0 e)
  same_is (list a) (list b) e = ap list (same_are a b e)
  same_is (map a) (map b) e = ap map (same_pairs_are a b e)
  same_is a b e = absurd cc

  pub same_are : (a b : Trees) → same_trees a b ≡ true → a ≡ b
  same_are no_trees no_trees e = refl
  same_are (more a xs) (more b ys) e = let h = both_true _ _ e in λ i. more (same_is a b h.0 i) (same_are xs ys h.1 i)
  same_are a b e = absurd cc

  pub same_pairs_are : (a b : Pairs) → same_pairs a b ≡ true → a ≡ b
  same_pairs_are no_pairs no_pairs e = refl
  same_pairs_are (pair k a xs) (pair l b ys) e =
      let h = both_true _ _ e in
      let g = both_true _ _ h.0 in
      λ i. pair ((bytes_decides k l).0 g.0 i) (same_is a b g.1 i) (same_pairs_are xs ys h.1 i)
  same_pairs_are a b e = absurd cc

same_bool_refl : (a : Bool) → same_bool a a ≡ true
same_bool_refl true = refl
same_bool_refl false = refl

mutual
  pub same_refl : (a : Tree) → same_tree a a ≡ true
  same_refl null = refl
  same_refl (boolean b) = same_bool_refl b
  same_refl (int z) = (signed_Decides z z).1 refl
  same_refl (text s) = (bytes_decides s s).1 refl
  same_refl (bytes s) = (bytes_decides s s).1 refl
  same_refl (list ts) = same_trees_refl ts
  same_refl (map ps) = same_pairs_refl ps

  pub same_trees_refl : (a : Trees) → same_trees a a ≡ true
  same_trees_refl no_trees = refl
  same_trees_refl (more a xs) = λ i. same_refl a i && same_trees_refl xs i

  pub same_pairs_refl : (a : Pairs) → same_pairs a a ≡ true
  same_pairs_refl no_pairs = refl
  same_pairs_refl (pair k a xs) = λ i. ((bytes_decides k k).1 refl i && same_refl a i) && same_pairs_refl xs i

pub same_tree_equiv : IsEquivalence same_tree
same_tree_equiv = record {
  refl = same_refl;
  symm = λ x y. both_ways (same_tree x y) (same_tree y x) (λ e. rw (same_is x y e) (same_refl y)) (λ e. rw (same_is y x e) (same_refl x));
  congr = λ x y z e. rw (same_is x y e) refl;
}

pub same_trees_equiv : IsEquivalence same_trees
same_trees_equiv = record {
  refl = same_trees_refl;
  symm = λ x y. both_ways (same_trees x y) (same_trees y x) (λ e. rw (same_are x y e) (same_trees_refl y)) (λ e. rw (same_are y x e) (same_trees_refl x));
  congr = λ x y z e. rw (same_are x y e) refl;
}

pub same_pairs_equiv : IsEquivalence same_pairs
same_pairs_equiv = record {
  refl = same_pairs_refl;
  symm = λ x y. both_ways (same_pairs x y) (same_pairs y x) (λ e. rw (same_pairs_are x y e) (same_pairs_refl y)) (λ e. rw (same_pairs_are y x e) (same_pairs_refl x));
  congr = λ x y z e. rw (same_pairs_are x y e) refl;
}
