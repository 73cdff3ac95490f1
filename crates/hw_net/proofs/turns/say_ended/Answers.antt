use Rattle.std.proofs.Common.{rules, arith, [], ◌≡◌, ◌<◌, List, length, subst}
use Rattle.hw_door.specs.Traffic.{Answer}
use Rattle.hw_net.specs.Trace.{Tells}
use Rattle.hw_net.specs.Walks.{Speak}
use Rattle.hw_net.proofs.Telling.{tells-none}
use Rattle.hw_net.proofs.Walking.{silent-walk, speaks-here, same-length}
use Rattle.hw_net.proofs.turns.say_ended.Goals as goal

pub returns-then-not-has_closing-clause-said : goal.returns-then-not-has_closing-clause-said
returns-then-not-has_closing-clause-said g c =
    ([], tells-none (g.W.Wires.trace c.args.wires.now), silent-walk c.args.now c.args.begin c.args.end c.args.lanes.now.items (c.has_closing.ensures (search rules)))

pub loop-index-preserved : goal.loop-index-preserved
loop-index-preserved g c =
    let trace = g.W.Wires.trace in
    let within : c.loop-index.index < length c.args.lanes.now.items = search rules in
    let same = same-length c.loop-index.lanes.items c.args.lanes.now.items c.loop-index.invariant.3 in
    let inside : c.loop-index.index < length c.loop-index.lanes.items = omega (arith, within, same) in (
      speaks-here (trace c.args.wires.now) (trace c.loop-index.wires) (trace c.say_if_ended.new.wires) c.args.now c.args.begin c.loop-index.index c.args.lanes.now.items c.loop-index.lanes.items c.say_if_ended.new.self.items
          c.loop-index.invariant.1 within inside c.loop-index.invariant.0 c.say_if_ended.ensures.said,
      search rules,
      search rules,
      search rules,
    )

pub returns-clause-said : goal.returns-clause-said
returns-clause-said g c =
    let trace = g.W.Wires.trace in
    let at_end : c.loop-index.index ≡ c.args.end = search rules in
    subst (λ n. (answers : List Answer) × Tells (trace c.args.wires.now) (trace c.loop-index.wires) answers
    × Speak c.args.now c.args.begin n c.args.lanes.now.items c.loop-index.lanes.items answers) at_end c.loop-index.invariant.0
