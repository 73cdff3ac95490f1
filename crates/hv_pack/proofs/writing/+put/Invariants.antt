use Rattle.std.proofs.Common.{◌≡◌, ◌+◌, ◌*◌, ◌++◌, take}
use Rattle.hv_value.specs.Tree.{depth, depth_of_all, depth_of_values, trees, pairs}
use Rattle.hv_value.specs.View.{tree, trees_of, entries}
use Rattle.hv_pack.specs.Writing.{trees_text, pairs_text, AreWritable, PairsAreWritable}
use Rattle.hv_pack.proofs.writing.+put.Given as goal

abbrev pub invariant-put_values-loop-value : goal.invariant-put_values-loop-value
invariant-put_values-loop-value l = record {
  text : l.out.items ≡ l.fn.out.items ++ trees_text (trees (trees_of (take l.value-index l.values)));
  fits : AreWritable (trees (trees_of (take l.value-index l.values)));
}

abbrev pub invariant-put_pairs-loop-key : goal.invariant-put_pairs-loop-key
invariant-put_pairs-loop-key l = record {
  text : l.out.items ≡ l.fn.out.items ++ pairs_text (pairs (entries (take l.key-index l.members)));
  fits : PairsAreWritable (pairs (entries (take l.key-index l.members)));
}

abbrev pub decreases-put_value : goal.decreases-put_value
decreases-put_value l = 2 * depth (tree l.value.now)

abbrev pub decreases-put_values : goal.decreases-put_values
decreases-put_values l = 2 * depth_of_all (trees_of l.values.now) + 1

abbrev pub decreases-put_pairs : goal.decreases-put_pairs
decreases-put_pairs l = 2 * depth_of_values (entries l.members.now) + 1
