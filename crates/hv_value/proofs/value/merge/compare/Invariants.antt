use Rattle.std.proofs.Common.{◌≡◌, drop}
use Rattle.hv_value.specs.Tree.{key_cmp}
use Rattle.hv_value.proofs.value.merge.compare.Given as goal

abbrev pub invariant-loop-i : goal.invariant-loop-i
invariant-loop-i l = key_cmp (drop l.i l.a) (drop l.i l.b) ≡ key_cmp l.a l.b
