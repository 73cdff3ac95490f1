-- How deep the values in a list are.
use Rattle.std.proofs.Common.{ℕ, suc, ◌<◌, List, [], ◌∷◌, arith}
use Rattle.std.specs.List.{All}
use Rattle.hv_value.specs.Tree.{depth, depth_of_all}
use Rattle.hv_value.specs.View.{tree, trees_of}
use Rattle.hv_value.specs.declared.value.Value.{Value}
use Rattle.hv_value.specs.Laws.{NoItemIsDeeper}

pub all_below : (vs : List Value) (n : ℕ) → 0 < n → All (λ v. depth (tree v) < n) vs → depth_of_all (trees_of vs) < n
all_below [] n some h = omega arith
all_below (v ∷ vs) n some h =
    let first : depth (tree v) < n = h 0 v (omega arith) in
    let rest : depth_of_all (trees_of vs) < n = all_below vs n some (λ k d below. h (suc k) d (omega arith)) in
    omega arith

pub below_all : NoItemIsDeeper → (vs : List Value) (n : ℕ) → depth_of_all (trees_of vs) < n → All (λ v. depth (tree v) < n) vs
below_all no_deeper vs n h k d below = omega (arith, no_deeper vs k d below)
