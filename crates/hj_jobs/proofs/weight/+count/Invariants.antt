use Rattle.std.proofs.Common.{◌≡◌, ◌+◌, ◌*◌, take}
use Rattle.hv_value.specs.Tree.{depth, depth_of_all, depth_of_values, trees, pairs}
use Rattle.hv_value.specs.View.{tree, trees_of, entries}
use Rattle.hd_calls.specs.Weights.{values_weight, pairs_weight}
use Rattle.hj_jobs.specs.Counted.{counted}
use Rattle.hj_jobs.proofs.weight.+count.Given as goal

abbrev pub invariant-values_count-loop-value : goal.invariant-values_count-loop-value
invariant-values_count-loop-value l = l.total ≡ counted (values_weight (trees (trees_of (take l.value-index l.values))))

abbrev pub invariant-pairs_count-loop-key : goal.invariant-pairs_count-loop-key
invariant-pairs_count-loop-key l = l.total ≡ counted (pairs_weight (pairs (entries (take l.key-index l.members))))

abbrev pub decreases-value_count : goal.decreases-value_count
decreases-value_count l = 2 * depth (tree l.value.now)

abbrev pub decreases-values_count : goal.decreases-values_count
decreases-values_count l = 2 * depth_of_all (trees_of l.values.now) + 1

abbrev pub decreases-pairs_count : goal.decreases-pairs_count
decreases-pairs_count l = 2 * depth_of_values (entries l.members.now) + 1
