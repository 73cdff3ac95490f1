use Rattle.std.proofs.Common.{◌≤◌, append_assoc, arith}
use Rattle.std.proofs.lemmas.List.{take_more}
use Rattle.hv_value.specs.Tree.{depth, depth_of_all, depth_of_values}
use Rattle.hv_value.specs.View.{tree, trees_of, entries}
use Rattle.hv_pack.proofs.Lists.{trees_text_push, AreWritable_push, pairs_text_push, PairsAreWritable_push, trees_count_is, pairs_count_is}
use Rattle.hv_pack.proofs.Kept.{kept_with, kept_on}
use Rattle.hv_pack.proofs.writing.+put.Goals as goal

pub put_values-loop-value-preserved : goal.put_values-loop-value-preserved
put_values-loop-value-preserved t c =
    let more = take_more c.args.values.now c.loop-value.value-index c.value-item.result c.loop-value-test.true in
    record {
      text = rw (c.in_ok-put_value.ensures.ok, c.loop-value.invariant.text, more, ← c.value-item.is, trees_text_push) (simp append_assoc);
      fits = rw (more, ← c.value-item.is) (AreWritable_push _ _ c.loop-value.invariant.fits c.in_ok-put_value.ensures.fits);
    }

pub put_values-put_value-requires : goal.put_values-put_value-requires
put_values-put_value-requires t c =
    let below = c.no_item_is_deeper.ensures c.args.values.now c.loop-value.value-index c.value-item.result c.loop-value-test.true in
    let deep : depth (tree c.value-item.result) ≤ depth_of_all (trees_of c.args.values.now) = rw c.value-item.is below in
    (omega (arith, deep, c.decreases), tt)

pub put_pairs-loop-key-preserved : goal.put_pairs-loop-key-preserved
put_pairs-loop-key-preserved t c =
    let more = take_more c.args.members.now c.loop-key.key-index c.loop-key-item.result c.loop-key-test.true in
    record {
      text = rw (c.in_ok-put_value.ensures.ok, c.in_ok-put_text.ensures.ok, c.loop-key.invariant.text, more, ← c.loop-key-item.is, pairs_text_push) (simp append_assoc);
      fits = rw (more, ← c.loop-key-item.is) (PairsAreWritable_push _ _ c.loop-key.invariant.fits c.in_ok-put_text.ensures.fits c.in_ok-put_text.ensures.utf8 c.in_ok-put_value.ensures.fits);
    }

pub put_pairs-put_value-requires : goal.put_pairs-put_value-requires
put_pairs-put_value-requires t c =
    let below = c.no_pair_is_deeper.ensures c.args.members.now c.loop-key.key-index c.loop-key-item.result c.loop-key-test.true in
    let deep : depth (tree c.loop-key-item.result.1) ≤ depth_of_values (entries c.args.members.now) = rw c.loop-key-item.is below in
    (omega (arith, deep, c.decreases), tt)

pub put_value-returns-in_ok-put_values-in-List-clause-ok : goal.put_value-returns-in_ok-put_values-in-List-clause-ok
put_value-returns-in_ok-put_values-in-List-clause-ok t c =
    rw (c.in_ok-put_values-in-List.ensures.ok, c.in_ok-put_list_head-in-List.ensures.ok, c.in-List.is, ← c.values-values.ensures.values, trees_count_is) (simp append_assoc)

pub put_value-returns-in_ok-put_values-in-List-clause-fits : goal.put_value-returns-in_ok-put_values-in-List-clause-fits
put_value-returns-in_ok-put_values-in-List-clause-fits t c =
    rw (c.in-List.is, ← c.values-values.ensures.values, trees_count_is) (c.in_ok-put_list_head-in-List.ensures.fits, c.in_ok-put_values-in-List.ensures.fits)

pub put_value-returns-in_ok-put_pairs-in-Map-clause-ok : goal.put_value-returns-in_ok-put_pairs-in-Map-clause-ok
put_value-returns-in_ok-put_pairs-in-Map-clause-ok t c =
    rw (c.in_ok-put_pairs-in-Map.ensures.ok, c.in_ok-put_map_head-in-Map.ensures.ok, c.in-Map.is, ← c.pairs-pairs.ensures.pairs, pairs_count_is) (simp append_assoc)

pub put_value-returns-in_ok-put_pairs-in-Map-clause-fits : goal.put_value-returns-in_ok-put_pairs-in-Map-clause-fits
put_value-returns-in_ok-put_pairs-in-Map-clause-fits t c =
    rw (c.in-Map.is, ← c.pairs-pairs.ensures.pairs, pairs_count_is)
    (c.in_ok-put_map_head-in-Map.ensures.fits, c.in_ok-put_pairs-in-Map.ensures.fits)

pub put_pairs-returns-in_err-put_value-clause-unchanged : goal.put_pairs-returns-in_err-put_value-clause-unchanged
put_pairs-returns-in_err-put_value-clause-unchanged t c =
    kept_on _ _ _ (kept_with _ _ _ c.loop-key.invariant.text) (kept_on _ _ _ c.in_ok-put_text.ensures.unchanged c.in_err-put_value.ensures.unchanged)
