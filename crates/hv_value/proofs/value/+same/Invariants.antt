use Rattle.std.proofs.Common.{◌≡◌, drop}
use Rattle.hv_value.specs.Tree.{trees, pairs}
use Rattle.hv_value.specs.Same.{same_trees, same_pairs}
use Rattle.hv_value.specs.View.{trees_of, entries}
use Rattle.hv_value.proofs.value.+same.Given as goal

abbrev pub invariant-same_all-loop-i : goal.invariant-same_all-loop-i
invariant-same_all-loop-i l = same_trees (trees (trees_of (drop l.i l.a))) (trees (trees_of (drop l.i l.b))) ≡ same_trees (trees (trees_of l.a)) (trees (trees_of l.b))

abbrev pub invariant-same_members-loop-i : goal.invariant-same_members-loop-i
invariant-same_members-loop-i l = same_pairs (pairs (entries (drop l.i l.a))) (pairs (entries (drop l.i l.b))) ≡ same_pairs (pairs (entries l.a)) (pairs (entries l.b))
