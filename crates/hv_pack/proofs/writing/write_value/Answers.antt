use Rattle.std.proofs.Common.{◌≤◌, arith}
use Rattle.hv_value.specs.Tree.{depth}
use Rattle.hv_value.specs.View.{tree}
use Rattle.hv_pack.proofs.Shortest.{is_spelling}
use Rattle.hv_pack.proofs.writing.write_value.Goals as goal

pub returns-in-Ok-clause-spells : goal.returns-in-Ok-clause-spells
returns-in-Ok-clause-spells c =
    let shallow : depth (tree c.args.v.now) ≤ 64 = omega (arith, c.depth.ensures.exact, c.depth.ensures.bound) in
    is_spelling c.pairs_in_order_are_their_map.ensures (tree c.args.v.now) shallow c.depth.ensures.in_order c.in-Ok.ensures.fits
