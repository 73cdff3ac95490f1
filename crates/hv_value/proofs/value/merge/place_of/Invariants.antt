use Rattle.std.proofs.Common.{◌≡◌, ◌++◌, take, drop}
use Rattle.std.specs.BTreeMap.{insert_entry}
use Rattle.hv_value.specs.Tree.{key_cmp}
use Rattle.hv_value.specs.declared.value.Value.{Value}
use Rattle.hv_value.proofs.value.merge.place_of.Given as goal

abbrev pub invariant-loop-i : goal.invariant-loop-i
invariant-loop-i l = (v : Value) → insert_entry key_cmp l.pairs l.key v ≡ take l.i l.pairs ++ insert_entry key_cmp (drop l.i l.pairs) l.key v
