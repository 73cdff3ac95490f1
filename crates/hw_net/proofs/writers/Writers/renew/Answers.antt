use Rattle.std.proofs.Common.{rules, ◌≤◌, arith, length, subst, sym, take_all}
use Rattle.hw_net.specs.Writers.{IsListOf}
use Rattle.hw_net.proofs.Gathering.{listed-next}
use Rattle.hw_net.proofs.writers.Writers.renew.Goals as goal

pub loop-lane-init : goal.loop-lane-init
loop-lane-init c = λ whole lane here writes. absurd (omega (arith, here.1))

pub loop-lane-preserved : goal.loop-lane-preserved
loop-lane-preserved c =
    listed-next c.loop-lane.self c.list.new.self c.args.lanes.now c.loop-lane.lane-index c.lane-item.result c.loop-lane-test.true (sym c.lane-item.is) c.loop-lane.invariant c.list.ensures

pub returns : goal.returns
returns c =
    let past : length c.args.lanes.now ≤ c.loop-lane.lane-index = search rules in
    subst (IsListOf c.loop-lane.self) (take_all c.loop-lane.lane-index c.args.lanes.now past) c.loop-lane.invariant
