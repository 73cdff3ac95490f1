use Rattle.std.proofs.Common.{◌≡◌, ◌≤◌, take}
use Rattle.hv_value.specs.Tree.{depth_of_all, trees}
use Rattle.hv_value.specs.Order.{AllInOrder}
use Rattle.hv_value.specs.View.{trees_of}
use Rattle.hv_value.proofs.value.deepest.Given as goal

abbrev pub invariant-loop-value : goal.invariant-loop-value
invariant-loop-value l = record {
  exact : l.deepest ≡ depth_of_all (trees_of (take l.value-index l.values));
  bound : l.deepest ≤ 64;
  in_order : AllInOrder (trees (trees_of (take l.value-index l.values)));
}
