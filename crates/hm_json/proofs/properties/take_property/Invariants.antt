use Rattle.std.proofs.Common.{◌≡◌}
use Rattle.std.specs.Vec.Iter.{into_iter_items}
use Rattle.hv_value.specs.Tree.{value_in, pairs}
use Rattle.hv_value.specs.View.{entries}
use Rattle.hm_json.proofs.properties.take_property.Given as goal

abbrev pub invariant-loop-key : goal.invariant-loop-key
invariant-loop-key l = value_in l.name (pairs (entries (into_iter_items l.key-iterator))) ≡ value_in l.name (pairs l.fn.object)
