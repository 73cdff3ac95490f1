use Rattle.std.proofs.Common.{rules, ◌≡◌, ◌<◌, ◌+◌, ◌^◌, ◌∙◌, length, get_or}
use Rattle.hw_net.proofs.Calm.{turns-here}
use Rattle.hw_net.proofs.Gathering.{listed-again}
use Rattle.hw_net.proofs.Sweeps.{wires-kept}
use Rattle.hw_net.proofs.Resting.{known-again}
use Rattle.hw_net.proofs.Tallying.{at-counted, room-again, put-again}
use Rattle.hw_net.proofs.Halting.{halts-here}
use Rattle.hw_net.proofs.lanes.Lanes.turn.Goals as goal

pub leave-requires : goal.leave-requires
leave-requires g c =
    let found : get_or c.self.inside.items.items c.args.index c.index_mut-lane.result.now ≡ c.index_mut-lane.result.now = search rules in
    let within : c.args.index < length c.self.inside.items.items = search rules in
    rw c.self.invariant.counted (at-counted c.self.inside.items.items c.args.index c.index_mut-lane.result.now within found)

pub enter-requires : goal.enter-requires
enter-requires g c =
    let small : length c.self.inside.items.items + 1 < 2 ^ 64 = search rules in
    room-again c.self.inside.items.items c.index_mut-lane.result.now c.self.inside.tally c.leave.new.self c.self.invariant.counted c.leave.ensures small

pub invariant_of-self : goal.invariant_of-self
invariant_of-self g c =
    let found : get_or c.self.inside.items.items c.args.index c.index_mut-lane.result.now ≡ c.index_mut-lane.result.now = search rules in
    let within : c.args.index < length c.self.inside.items.items = search rules in
    record {
      counted = put-again c.self.inside.items.items c.args.index c.index_mut-lane.result.now c.turn-heard.new.self c.self.inside.tally c.leave.new.self c.enter.new.self within found
          c.self.invariant.counted c.leave.ensures c.enter.ensures;
      known = known-again c.self.inside.due _ _ c.self.inside.items.items c.args.index c.turn-heard.new.self (search rules) (search rules) c.self.invariant.known c.due.ensures;
      listed = listed-again c.self.inside.writers c.list.new.self c.self.inside.items.items c.args.index c.index_mut-lane.result.now c.turn-heard.new.self c.is_writer-was_writer.result within found (search rules) (search rules)
          c.self.invariant.listed c.list.ensures;
    }

pub returns-clause-lanes : goal.returns-clause-lanes
returns-clause-lanes g c =
    wires-kept c.self.inside.items.items c.args.index c.index_mut-lane.result.now c.turn-heard.new.self (search rules) ∙ search rules

pub returns-clause-turned : goal.returns-clause-turned
returns-clause-turned g c =
    let trace = g.W.Wires.trace in
    let found : get_or c.args.self.now.items c.args.index c.index_mut-lane.result.now ≡ c.index_mut-lane.result.now = search rules in
    let within : c.args.index < length c.args.self.now.items = search rules in
    turns-here c.turn-heard.result (trace c.args.wires.now) (trace c.turn-heard.new.wires) c.args.now c.args.index c.args.self.now.items _ c.index_mut-lane.result.now c.turn-heard.new.self c.args.buf.now c.args.first_look
    within found (search rules) c.turn-heard.ensures.turned

pub returns-clause-halts : goal.returns-clause-halts
returns-clause-halts g c =
    let trace = g.W.Wires.trace in
    let found : get_or c.args.self.now.items c.args.index c.index_mut-lane.result.now ≡ c.index_mut-lane.result.now = search rules in
    let within : c.args.index < length c.args.self.now.items = search rules in
    halts-here c.turn-heard.result (trace c.args.wires.now) (trace c.turn-heard.new.wires) c.args.index c.args.self.now.items _ c.index_mut-lane.result.now c.turn-heard.new.self c.args.buf.now c.args.first_look
    within found (search rules) c.turn-heard.ensures.halts
