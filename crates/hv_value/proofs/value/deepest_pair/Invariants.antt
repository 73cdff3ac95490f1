use Rattle.std.proofs.Common.{◌≡◌, ◌≤◌, take}
use Rattle.hv_value.specs.Tree.{depth_of_values, pairs}
use Rattle.hv_value.specs.Order.{PairsInOrder}
use Rattle.hv_value.specs.View.{entries}
use Rattle.hv_value.proofs.value.deepest_pair.Given as goal

abbrev pub invariant-loop-value : goal.invariant-loop-value
invariant-loop-value l = record {
  exact : l.deepest ≡ depth_of_values (entries (take l.value-index l.pairs));
  bound : l.deepest ≤ 64;
  in_order : PairsInOrder (pairs (entries (take l.value-index l.pairs)));
}
