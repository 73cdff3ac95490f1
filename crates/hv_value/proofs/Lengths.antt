-- Lists of two lengths are not the same.
use Rattle.std.proofs.Common.{◌≡◌, ◌≢◌, ℕ, suc, Bool, true, false, ◌&&◌, List, [], ◌∷◌, length, refl, ap}
use Rattle.hv_value.specs.Tree.{trees, pairs}
use Rattle.hv_value.specs.Same.{same_tree, same_trees, same_pairs, same_bytes}
use Rattle.hv_value.specs.View.{tree, trees_of, entries}
use Rattle.hv_value.specs.declared.value.Value.{Value}

never : (a : Bool) → a && false ≡ false
never true = refl
never false = refl

pub other_trees : (a b : List Value) → (length a ≢ length b) → same_trees (trees (trees_of a)) (trees (trees_of b)) ≡ false
other_trees [] [] n = absurd (n refl)
other_trees [] (y ∷ ys) n = refl
other_trees (x ∷ xs) [] n = refl
other_trees (x ∷ xs) (y ∷ ys) n = rw (other_trees xs ys (λ e. n (ap suc e))) (never (same_tree (tree x) (tree y)))

pub other_pairs : (a b : List (List ℕ × Value)) → (length a ≢ length b) → same_pairs (pairs (entries a)) (pairs (entries b)) ≡ false
other_pairs [] [] n = absurd (n refl)
other_pairs [] (y ∷ ys) n = refl
other_pairs (x ∷ xs) [] n = refl
other_pairs (x ∷ xs) (y ∷ ys) n = rw (other_pairs xs ys (λ e. n (ap suc e))) (never (same_bytes x.0 y.0 && same_tree (tree x.1) (tree y.1)))
