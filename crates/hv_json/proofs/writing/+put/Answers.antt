use Rattle.std.proofs.Common.{◌≤◌, arith}
use Rattle.hv_value.specs.Tree.{depth, depth_of_all, depth_of_values}
use Rattle.hv_value.specs.View.{tree, trees_of, entries}
use Rattle.hv_json.proofs.writing.+put.Goals as goal

pub put_items-put_value-requires : goal.put_items-put_value-requires
put_items-put_value-requires t c =
    let below = c.no_item_is_deeper.ensures c.args.values.now c.loop-value.value-index c.value-item.result c.loop-value-test.true in
    let deep : depth (tree c.value-item.result) ≤ depth_of_all (trees_of c.args.values.now) = rw c.value-item.is below in
    (omega (arith, deep, c.decreases), tt)

pub put_members-put_value-requires : goal.put_members-put_value-requires
put_members-put_value-requires t c =
    let below = c.no_pair_is_deeper.ensures c.args.members.now c.loop-key.key-index c.loop-key-item.result c.loop-key-test.true in
    let deep : depth (tree c.loop-key-item.result.1) ≤ depth_of_values (entries c.args.members.now) = rw c.loop-key-item.is below in
    (omega (arith, deep, c.decreases), tt)
