use Rattle.std.proofs.Common.{◌<◌, ◌↔◌, IsTrue, rules, arith}
use Rattle.std.specs.List.{All}
use Rattle.hv_value.specs.Tree.{depth, depth_of_all}
use Rattle.hv_value.specs.View.{tree, trees_of}
use Rattle.hm_message.proofs.Shallow.{all_below, below_all}
use Rattle.hm_message.proofs.message.are_shallow.Goals as goal

pub returns : goal.returns
returns c =
    let vs = c.values.result.now in
    let h : IsTrue c.all.result ↔ All (λ v. depth (tree v) < 63) vs = search rules in
    let e = c.values.ensures.values in (
      λ t. let below : depth_of_all (trees_of vs) < 63 = all_below vs 63 (omega arith) (h.0 t) in rw (← e) (omega (arith, below)),
      λ shallow. let below : depth_of_all (trees_of vs) < 63 = rw e (omega (arith, shallow)) in h.1 (below_all c.no_item_is_deeper.ensures vs 63 below),
    )
