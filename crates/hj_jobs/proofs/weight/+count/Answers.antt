use Rattle.std.proofs.Common.{◌≤◌, arith}
use Rattle.std.proofs.lemmas.List.{take_more}
use Rattle.hv_value.specs.Tree.{depth, depth_of_all, depth_of_values}
use Rattle.hv_value.specs.View.{tree, trees_of, entries}
use Rattle.hj_jobs.proofs.Weighing.{counted_both, counted_pair, pairs_push, values_push}
use Rattle.hj_jobs.proofs.weight.+count.Goals as goal

pub values_count-loop-value-preserved : goal.values_count-loop-value-preserved
values_count-loop-value-preserved t c =
    let more = take_more c.args.values.now c.loop-value.value-index c.value-item.result c.loop-value-test.true in
    rw (c.sum-total.ensures, c.value_count.ensures.exact, c.loop-value.invariant, more, ← c.value-item.is, values_push) (counted_both _ _)

pub values_count-value_count-requires : goal.values_count-value_count-requires
values_count-value_count-requires t c =
    let below = c.no_item_is_deeper.ensures c.args.values.now c.loop-value.value-index c.value-item.result c.loop-value-test.true in
    let deep : depth (tree c.value-item.result) ≤ depth_of_all (trees_of c.args.values.now) = rw c.value-item.is below in
    (omega (arith, deep, c.decreases), tt)

pub pairs_count-loop-key-preserved : goal.pairs_count-loop-key-preserved
pairs_count-loop-key-preserved t c =
    let more = take_more c.args.members.now c.loop-key.key-index c.loop-key-item.result c.loop-key-test.true in
    rw (c.sum-total.ensures, c.sum.ensures, c.value_count.ensures.exact, c.as_str.ensures, c.loop-key.invariant, more, ← c.loop-key-item.is, pairs_push)
    (counted_pair _ _ _)

pub pairs_count-value_count-requires : goal.pairs_count-value_count-requires
pairs_count-value_count-requires t c =
    let below = c.no_pair_is_deeper.ensures c.args.members.now c.loop-key.key-index c.loop-key-item.result c.loop-key-test.true in
    let deep : depth (tree c.loop-key-item.result.1) ≤ depth_of_values (entries c.args.members.now) = rw c.loop-key-item.is below in
    (omega (arith, deep, c.decreases), tt)
