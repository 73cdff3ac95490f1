use Rattle.std.proofs.Common.{rules, ◌≡◌, false, ltb}
use Rattle.hw_net.proofs.Tallying.{none-goes}
use Rattle.hw_net.proofs.lanes.Lanes.has_over.Goals as goal

pub returns : goal.returns
returns c =
    rw (← c.self.view_is) (λ e.
    let none : ltb 0 c.self.inside.tally.over ≡ false = search rules in
    none-goes c.self.inside.items.items c.self.inside.tally c.self.invariant.counted none)
