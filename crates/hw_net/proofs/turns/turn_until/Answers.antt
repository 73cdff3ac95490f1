use Rattle.std.proofs.Common.{rules, arith, ◌≡◌, ◌<◌, ◌∙◌, ap, sym, None, Some, length}
use Rattle.hw_net.specs.Lane.{Lane, is_overdue}
use Rattle.hw_net.specs.Walks.{Walks}
use Rattle.hw_net.proofs.Calm.{calm-listens}
use Rattle.hw_net.proofs.Searching.{ends-rests, still-told, told-all, told-none}
use Rattle.hw_net.proofs.Walking.{walks-after-look, walks-still, same-length}
use Rattle.hw_net.proofs.Halting.{on-err, halts-after-look}
use Rattle.hw_net.proofs.turns.turn_until.Goals as goal

pub returns-in-Some-clause-ended : goal.returns-in-Some-clause-ended
returns-in-Some-clause-ended g c =
    let trace = g.W.Wires.trace in
    let within : c.loop-index.index < length c.args.lanes.now.items = search rules in
    let same = same-length c.loop-index.lanes.items c.args.lanes.now.items c.loop-index.invariant.4 in
    let inside : c.loop-index.index < length c.loop-index.lanes.items = omega (arith, within, same) in
    let asked = told-none (trace c.loop-index.wires) (trace c.all_rest.new.wires) c.all_rest.result (search rules) c.all_rest.ensures.told in
    let walked = still-told (λ answers. Walks c.args.now None c.args.begin c.loop-index.index c.args.lanes.now.items c.loop-index.lanes.items answers None) (trace c.args.wires.now) (trace c.loop-index.wires)
    (trace c.all_rest.new.wires) c.loop-index.invariant.0 asked in (
      search rules,
      search rules,
      walks-after-look (trace c.args.wires.now) (trace c.all_rest.new.wires) (trace c.read_first-first_look.new.wires) (trace c.turn.new.wires) c.args.now (Some c.in-Some.event) c.args.begin c.loop-index.index
          c.args.lanes.now.items c.loop-index.lanes.items c.turn.new.self.items c.read_first-first_look.new.buf c.read_first-first_look.result c.loop-index.invariant.1 within inside walked
          c.read_first-first_look.ensures.reads_first (rw c.in-Some.is at c.in_ok-event.ensures.turned),
    )

pub loop-index-preserved : goal.loop-index-preserved
loop-index-preserved g c =
    let trace = g.W.Wires.trace in
    let within : c.loop-index.index < length c.args.lanes.now.items = search rules in
    let same = same-length c.loop-index.lanes.items c.args.lanes.now.items c.loop-index.invariant.4 in
    let inside : c.loop-index.index < length c.loop-index.lanes.items = omega (arith, within, same) in
    let asked = told-none (trace c.loop-index.wires) (trace c.all_rest.new.wires) c.all_rest.result (search rules) c.all_rest.ensures.told in
    let walked = still-told (λ answers. Walks c.args.now None c.args.begin c.loop-index.index c.args.lanes.now.items c.loop-index.lanes.items answers None) (trace c.args.wires.now) (trace c.loop-index.wires)
    (trace c.all_rest.new.wires) c.loop-index.invariant.0 asked in
    let none : c.in_ok-event.field-0 ≡ None = search rules in (
      walks-after-look (trace c.args.wires.now) (trace c.all_rest.new.wires) (trace c.read_first-first_look.new.wires) (trace c.turn.new.wires) c.args.now None c.args.begin c.loop-index.index
          c.args.lanes.now.items c.loop-index.lanes.items c.turn.new.self.items c.read_first-first_look.new.buf c.read_first-first_look.result c.loop-index.invariant.1 within inside walked
          c.read_first-first_look.ensures.reads_first (rw none at c.in_ok-event.ensures.turned),
      search rules,
      search rules,
      search rules,
      search rules,
    )

pub loop-index-preserved-then-eq : goal.loop-index-preserved-then-eq
loop-index-preserved-then-eq g c =
    let trace = g.W.Wires.trace in
    let within : c.loop-index.index < length c.args.lanes.now.items = search rules in
    let same = same-length c.loop-index.lanes.items c.args.lanes.now.items c.loop-index.invariant.4 in
    let inside : c.loop-index.index < length c.loop-index.lanes.items = omega (arith, within, same) in
    let asked = told-none (trace c.loop-index.wires) (trace c.all_rest.new.wires) c.all_rest.result (search rules) c.all_rest.ensures.told in
    let walked = still-told (λ answers. Walks c.args.now None c.args.begin c.loop-index.index c.args.lanes.now.items c.loop-index.lanes.items answers None) (trace c.args.wires.now) (trace c.loop-index.wires)
    (trace c.all_rest.new.wires) c.loop-index.invariant.0 asked in (
      walks-still (trace c.args.wires.now) (trace c.all_rest.new.wires) (trace c.read_first-first_look.new.wires) c.args.now c.args.begin c.loop-index.index
          c.args.lanes.now.items c.loop-index.lanes.items c.read_first-first_look.new.buf c.read_first-first_look.result c.loop-index.invariant.1 within inside
          (λ lane first at reads_first. calm-listens c.args.now lane first c.read_first-first_look.new.buf
          (sym (ap (λ (l : Lane). is_overdue c.args.now l) at) ∙ c.read_first-first_look.ensures.in_time (search rules) lane) reads_first) (search rules) walked c.read_first-first_look.ensures.reads_first,
      search rules,
      search rules,
      search rules,
      search rules,
    )

pub returns-in_err-event-clause-halts : goal.returns-in_err-event-clause-halts
returns-in_err-event-clause-halts g c =
    let trace = g.W.Wires.trace in
    let asked = told-none (trace c.loop-index.wires) (trace c.all_rest.new.wires) c.all_rest.result (search rules) c.all_rest.ensures.told in
    let walked = still-told (λ answers. Walks c.args.now None c.args.begin c.loop-index.index c.args.lanes.now.items c.loop-index.lanes.items answers None) (trace c.args.wires.now) (trace c.loop-index.wires)
    (trace c.all_rest.new.wires) c.loop-index.invariant.0 asked in
    on-err c.from_residual.result (halts-after-look (trace c.args.wires.now) (trace c.all_rest.new.wires) (trace c.read_first-first_look.new.wires) (trace c.turn.new.wires) c.args.now c.args.begin c.loop-index.index c.args.end
    c.args.lanes.now.items c.loop-index.lanes.items c.turn.new.self.items c.read_first-first_look.new.buf c.read_first-first_look.result c.loop-index.invariant.1 (search rules) walked
    c.read_first-first_look.ensures.reads_first c.in_err-event.ensures.halts)

pub returns-then-all_rest-clause-ended : goal.returns-then-all_rest-clause-ended
returns-then-all_rest-clause-ended g c =
    let trace = g.W.Wires.trace in
    let told = told-all (trace c.loop-index.wires) (trace c.all_rest.new.wires) c.all_rest.result (search rules) c.all_rest.ensures.told in
    ends-rests (trace c.args.wires.now) (trace c.loop-index.wires) (trace c.all_rest.new.wires) c.args.now c.args.begin c.loop-index.index c.args.end c.args.lanes.now.items c.loop-index.lanes.items
    c.loop-index.invariant.1 (search rules) c.loop-index.invariant.0 told (c.all_rest.ensures.rest (search rules))
