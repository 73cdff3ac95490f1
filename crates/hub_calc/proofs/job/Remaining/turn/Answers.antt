use Rattle.std.proofs.Common.{◌≡◌, ◌∙◌, ap}
use Rattle.hub_calc.specs.declared.job.Remaining.TheVariants as remaining
use Rattle.hub_calc.specs.Jobs.{acts_left}
use Rattle.hub_calc.specs.Table.{Acts, turn}
use Rattle.hub_calc.proofs.Counting.{counts}
use Rattle.hub_calc.proofs.job.Remaining.turn.Goals as goal

pub returns-else-done-last-clause-stepped : goal.returns-else-done-last-clause-stepped
returns-else-done-last-clause-stepped c =
    let was : remaining.Count c.in-Count.done c.in-Count.last ≡ c.args.self.now = c.in-Count.ensures.value in
    rw (c.from-in-Count.ensures, c.from.ensures)
    (counts c.in-Count.done c.in-Count.last c.args.input.now c.if-done-last.false
    ∙ ap (λ l. turn (Acts (acts_left l)) c.args.input.now) was)
