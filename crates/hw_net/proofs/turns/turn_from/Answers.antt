use Rattle.std.proofs.Common.{rules, ◌∷◌, []}
use Rattle.hw_door.specs.Traffic.{none_ready}
use Rattle.hw_net.proofs.Searching.{rests-at-once, told-all, told-none, then-searches, then-halts}
use Rattle.hw_net.proofs.turns.turn_from.Goals as goal

pub returns-then-all_rest-clause-hears : goal.returns-then-all_rest-clause-hears
returns-then-all_rest-clause-hears g c =
    let trace = g.W.Wires.trace in (
      none_ready ∷ [],
      told-all (trace c.args.wires.now) (trace c.all_rest.new.wires) c.all_rest.result (search rules) c.all_rest.ensures.told,
      rests-at-once c.args.now c.args.from c.args.lanes.now.items (c.all_rest.ensures.rest (search rules)),
    )

pub returns-clause-hears : goal.returns-clause-hears
returns-clause-hears g c =
    let trace = g.W.Wires.trace in
    let asked = told-none (trace c.args.wires.now) (trace c.all_rest.new.wires) c.all_rest.result (search rules) c.all_rest.ensures.told in
    then-searches c.turn_each.result (trace c.args.wires.now) (trace c.all_rest.new.wires) (trace c.turn_each.new.wires) c.args.now c.args.from c.args.lanes.now.items c.turn_each.new.lanes.items asked
    c.turn_each.ensures.hears

pub returns-clause-halts : goal.returns-clause-halts
returns-clause-halts g c =
    let trace = g.W.Wires.trace in
    let asked = told-none (trace c.args.wires.now) (trace c.all_rest.new.wires) c.all_rest.result (search rules) c.all_rest.ensures.told in
    then-halts c.turn_each.result (trace c.args.wires.now) (trace c.all_rest.new.wires) (trace c.turn_each.new.wires) c.args.now c.args.from c.args.lanes.now.items c.turn_each.new.lanes.items asked
    c.turn_each.ensures.halts
