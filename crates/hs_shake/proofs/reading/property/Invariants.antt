use Rattle.std.proofs.Common.{◌≡◌, drop}
use Rattle.hv_value.specs.Tree.{value_in, pairs}
use Rattle.hv_value.specs.View.{entries}
use Rattle.hs_shake.proofs.reading.property.Given as goal

abbrev pub invariant-loop-key : goal.invariant-loop-key
invariant-loop-key l = value_in l.name (pairs (entries (drop l.key-index l.key-items))) ≡ value_in l.name (pairs (entries l.key-items))
