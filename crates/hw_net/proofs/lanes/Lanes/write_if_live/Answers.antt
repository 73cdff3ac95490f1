use Rattle.std.proofs.Common.{rules, ◌≡◌, ◌<◌, ◌+◌, ◌^◌, ◌∙◌, length, get_or}
use Rattle.hw_net.specs.Saying.{WritesIfLive}
use Rattle.hw_net.proofs.Gathering.{listed-written, nothing-here, writes-nothing}
use Rattle.hw_net.proofs.Sweeps.{wires-kept}
use Rattle.hw_net.proofs.Resting.{known-again}
use Rattle.hw_net.proofs.Tallying.{at-counted, room-again, put-again}
use Rattle.hw_net.proofs.lanes.Lanes.write_if_live.Goals as goal

pub leave-requires : goal.leave-requires
leave-requires g c =
    let found : get_or c.self.inside.items.items c.args.index c.index_mut-lane.result.now ≡ c.index_mut-lane.result.now = search rules in
    let within : c.args.index < length c.self.inside.items.items = search rules in
    rw c.self.invariant.counted (at-counted c.self.inside.items.items c.args.index c.index_mut-lane.result.now within found)

pub enter-requires : goal.enter-requires
enter-requires g c =
    let small : length c.self.inside.items.items + 1 < 2 ^ 64 = search rules in
    room-again c.self.inside.items.items c.index_mut-lane.result.now c.self.inside.tally c.leave.new.self c.self.invariant.counted c.leave.ensures small

pub invariant_of-self : goal.invariant_of-self
invariant_of-self g c =
    let found : get_or c.self.inside.items.items c.args.index c.index_mut-lane.result.now ≡ c.index_mut-lane.result.now = search rules in
    let within : c.args.index < length c.self.inside.items.items = search rules in
    record {
      counted = put-again c.self.inside.items.items c.args.index c.index_mut-lane.result.now c.write_if_live.new.self c.self.inside.tally c.leave.new.self c.enter.new.self within found
          c.self.invariant.counted c.leave.ensures c.enter.ensures;
      known = known-again c.self.inside.due _ _ c.self.inside.items.items c.args.index c.write_if_live.new.self (search rules) (search rules) c.self.invariant.known c.due.ensures;
      listed = listed-written c.self.inside.writers c.self.inside.items.items c.args.index c.index_mut-lane.result.now c.write_if_live.new.self c.write_if_live.ensures.written.0 within found
          c.write_if_live.ensures.written.2 c.self.invariant.listed;
    }

pub returns-clause-lanes : goal.returns-clause-lanes
returns-clause-lanes g c =
    wires-kept c.self.inside.items.items c.args.index c.index_mut-lane.result.now c.write_if_live.new.self (search rules) ∙ search rules

pub returns-then-not-is_writer-clause-written : goal.returns-then-not-is_writer-clause-written
returns-then-not-is_writer-clause-written g c =
    let lane = c.index.result.now in
    let found : get_or c.args.self.now.items c.args.index lane ≡ lane = search rules in
    nothing-here (g.W.Wires.trace c.args.wires.now) c.args.index WritesIfLive c.args.self.now.items lane found (writes-nothing lane (search rules))
