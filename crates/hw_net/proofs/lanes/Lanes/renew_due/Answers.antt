use Rattle.std.proofs.Common.{rules, ◌≡◌, ◌<◌, ◌≤◌, length, take_all, get_or, subst}
use Rattle.std.specs.List.{All}
use Rattle.hw_net.specs.Resting.{IsKnown}
use Rattle.hw_net.proofs.Resting.{known-next}
use Rattle.hw_net.proofs.lanes.Lanes.renew_due.Goals as goal

pub loop-index-preserved : goal.loop-index-preserved
loop-index-preserved c =
    let found : get_or c.self.inside.items.items c.loop-index.index c.index.result.now ≡ c.index.result.now = search rules in
    let within : c.loop-index.index < length c.self.inside.items.items = search rules in
    known-next c.loop-index.due c.due.result c.min-due.result c.self.inside.items.items c.loop-index.index c.index.result.now (search rules) (search rules) within found c.loop-index.invariant c.due.ensures

pub invariant_of-self : goal.invariant_of-self
invariant_of-self c =
    let past : length c.self.inside.items.items ≤ c.loop-index.index = search rules in
    record {
      counted = c.self.invariant.counted;
      known = subst (All (IsKnown c.loop-index.due)) (take_all c.loop-index.index c.self.inside.items.items past) c.loop-index.invariant;
      listed = c.self.invariant.listed;
    }
