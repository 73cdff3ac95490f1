use Rattle.std.proofs.Common.{◌≡◌, []}
use Rattle.std.specs.Vec.Iter.{into_iter_items}
use Rattle.hv_value.specs.Tree.{put_all}
use Rattle.hv_value.specs.View.{entries}
use Rattle.hv_value.proofs.value.merge.merged_many.Given as goal

abbrev pub invariant-loop-key : goal.invariant-loop-key
invariant-loop-key l = put_all (entries l.map.entries) (entries (into_iter_items l.key-iterator)) ≡ put_all [] (entries l.fn.pairs.items)
