use Rattle.std.proofs.Common.{rules, ◌≡◌, false, ltb}
use Rattle.hw_net.proofs.Tallying.{none-closes}
use Rattle.hw_net.proofs.lanes.Lanes.has_closing.Goals as goal

pub returns : goal.returns
returns c = λ e.
    let none : ltb 0 c.self.inside.tally.closing ≡ false = search rules in
    rw (← c.self.view_is) (none-closes c.self.inside.items.items c.self.inside.tally c.self.invariant.counted none)
