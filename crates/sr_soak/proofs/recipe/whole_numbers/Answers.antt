use Rattle.std.proofs.Common.{Err, ap, ◌∙◌}
use Rattle.std.proofs.lemmas.List.{take_all}
use Rattle.sr_soak.proofs.Numbers.{numbers_in, not_too_deep}
use Rattle.sr_soak.proofs.recipe.whole_numbers.Goals as goal

pub unreachable-requires : goal.unreachable-requires
unreachable-requires c =
    let of = c.in-Err.ensures in
    not_too_deep c.loop-number.values.items c.args.numbers.now
    (c.loop-number.invariant ∙ ap numbers_in (take_all c.loop-number.number-index c.args.numbers.now c.loop-number-test.false)) (of.deep.0 (ap Err of.only))
