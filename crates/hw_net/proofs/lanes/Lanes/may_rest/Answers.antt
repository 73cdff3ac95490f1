use Rattle.std.proofs.Common.{rules, ◌≡◌, false, ltb}
use Rattle.hw_net.proofs.Resting.{all-rest}
use Rattle.hw_net.proofs.Tallying.{none-restless}
use Rattle.hw_net.proofs.lanes.Lanes.may_rest.Goals as goal

pub returns-then-now-self : goal.returns-then-now-self
returns-then-now-self c = λ rests.
    let none : ltb 0 c.self.inside.tally.restless ≡ false = search rules in
    rw (← c.self.view_is) (all-rest c.args.now c.self.inside.due c.self.inside.items.items (search rules) c.self.invariant.known
    (none-restless c.self.inside.items.items c.self.inside.tally c.self.invariant.counted none))
