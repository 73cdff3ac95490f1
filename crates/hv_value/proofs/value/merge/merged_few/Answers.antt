use Rattle.std.proofs.Common.{◌≡◌, ◌∷◌, rules, ap, ◌∙◌}
use Rattle.std.specs.Vec.Iter.{into_iter_items}
use Rattle.std.specs.BTreeMap.{insert_entry}
use Rattle.hv_value.specs.Tree.{key_cmp}
use Rattle.hv_value.specs.View.{tree, entries}
use Rattle.hv_value.proofs.Puts.{entries-insert_entry}
use Rattle.hv_value.proofs.value.merge.merged_few.Goals as goal

pub loop-key-preserved : goal.loop-key-preserved
loop-key-preserved c =
    let first : into_iter_items c.loop-key.key-iterator ≡ (c.in-Some.key, c.in-Some.value) ∷ into_iter_items c.next.new.self = search rules in
    let put = rw first at c.loop-key.invariant in
    let after : entries c.put.new.pairs.items ≡ insert_entry key_cmp (entries c.loop-key.found.items) c.in-Some.key (tree c.in-Some.value) =
    ap entries c.in_ok-put.ensures.ok ∙ entries-insert_entry c.loop-key.found.items c.in-Some.key c.in-Some.value in
    rw after put
