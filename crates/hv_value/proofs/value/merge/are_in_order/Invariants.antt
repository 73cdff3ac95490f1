use Rattle.std.proofs.Common.{◌≡◌}
use Rattle.std.specs.List.{AllAdjacentBelow}
use Rattle.std.specs.declared.cmp.Ordering.TheVariants.{Less}
use Rattle.hv_value.specs.Tree.{key_cmp}
use Rattle.hv_value.proofs.value.merge.are_in_order.Given as goal

abbrev pub invariant-loop-i : goal.invariant-loop-i
invariant-loop-i l = AllAdjacentBelow (λ p q. key_cmp p.0 q.0 ≡ Less) l.pairs l.i
