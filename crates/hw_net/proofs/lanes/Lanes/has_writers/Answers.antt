use Rattle.std.proofs.Common.{rules, ◌≡◌, true, false, ltb}
use Rattle.hw_net.proofs.Tallying.{some-writers, no-writers}
use Rattle.hw_net.proofs.lanes.Lanes.has_writers.Goals as goal

pub returns-clause-some : goal.returns-clause-some
returns-clause-some c = λ e.
    let some : ltb 0 c.self.inside.tally.writers ≡ true = search rules in
    rw (← c.self.view_is) (some-writers c.self.inside.items.items c.self.inside.tally c.self.invariant.counted some)

pub returns-clause-none : goal.returns-clause-none
returns-clause-none c = λ e.
    let none : ltb 0 c.self.inside.tally.writers ≡ false = search rules in
    rw (← c.self.view_is) (no-writers c.self.inside.items.items c.self.inside.tally c.self.invariant.counted none)
