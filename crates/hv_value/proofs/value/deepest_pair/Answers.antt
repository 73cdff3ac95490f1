use Rattle.std.proofs.Common.{◌≡◌, ◌++◌, ◌∷◌, [], ◌+◌, take, refl, ◌∙◌, arith}
use Rattle.std.proofs.lemmas.List.{take_more}
use Rattle.hv_value.proofs.Depths.{deepest_push_pair, ord_max_is}
use Rattle.hv_value.proofs.Orders.{PairsInOrder-push}
use Rattle.hv_value.proofs.value.deepest_pair.Goals as goal

pub loop-value-preserved : goal.loop-value-preserved
loop-value-preserved c =
    let xs = c.args.pairs.now in
    let more : take (c.loop-value.value-index + 1) xs ≡ take c.loop-value.value-index xs ++ c.loop-value-item.result ∷ [] =
    rw (take_more xs c.loop-value.value-index c.loop-value-item.result c.loop-value-test.true, ← c.loop-value-item.is) refl in
    let h = c.max-deepest.ensures ∙ ord_max_is c.loop-value.deepest c.depth.result in
    rw more (record {
      exact = rw deepest_push_pair (omega (arith, h));
      bound = omega (arith, h);
      in_order = PairsInOrder-push _ _ c.loop-value.invariant.in_order c.depth.ensures.in_order;
    })
