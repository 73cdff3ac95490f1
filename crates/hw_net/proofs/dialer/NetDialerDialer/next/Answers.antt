use Rattle.std.proofs.Common.{rules, refl, ◌∙◌}
use Rattle.hw_net.specs.Dialer.{DialerState, FailsDialed, HaltsDialed, patience}
use Rattle.hw_net.specs.Door.{state_of}
use Rattle.hw_net.proofs.Dialing.{fell-goes, gathers-ends, gathers-hears, heard-goes}
use Rattle.hw_net.proofs.Sweeps.{rose-within}
use Rattle.hw_net.proofs.dialer.NetDialerDialer.next.Goals as goal

pub returns-then-is_err-clause-heard : goal.returns-then-is_err-clause-heard
returns-then-is_err-clause-heard g c =
    let trace = g.W.Wires.trace in
    let faults = g.W.Wires.faults in
    let d = c.self.inside in
    let m = c.self-2.inside in
    let n = c.gather-wait.new.self in
    let w = c.write_gathered.new.self in
    let before : DialerState = record { door = record { lanes = d.reactor.lanes.items; from = d.reactor.from; named = d.reactor.named; moment = d.reactor.moment }; numbers = d.numbers.items; failed = d.failed.items; last = d.last } in
    let done : DialerState = record { door = record { lanes = m.reactor.lanes.items; from = m.reactor.from; named = m.reactor.named; moment = m.reactor.moment }; numbers = m.numbers.items; failed = m.failed.items; last = m.last } in
    let after : DialerState = record { door = record { lanes = w.lanes.items; from = w.from; named = w.named; moment = w.moment }; numbers = m.numbers.items; failed = m.failed.items; last = m.last } in
    let gathers = rw (← c.self.view_is) at (rw c.patience-wait.ensures at c.gather-wait.ensures.gathers) in
    rw (← c.self.view_is) (fell-goes g.W.Wires.trace g.W.Wires.wires g.W.Wires.faults c.args.wait c.hear_next-heard.result
    (record { reactor = d.reactor; addresses = d.addresses.items; numbers = d.numbers.items; failed = d.failed.items; last = d.last })
    (record { reactor = w; addresses = m.addresses.items; numbers = m.numbers.items; failed = m.failed.items; last = m.last }) (search rules)
    (λ e.
    let f = rw (← c.self-2.view_is) at (c.hear_next-heard.ensures.fails e) in (
      rose-within (faults d.reactor.wires) (faults n.wires) (faults m.reactor.wires) (faults w.wires) c.gather-wait.ensures.wire_faults f.0 c.write_gathered.ensures.wire_faults,
      gathers-ends FailsDialed (trace d.reactor.wires) (trace n.wires) (trace m.reactor.wires) (trace w.wires) (patience c.args.wait d.failed.items) c.gather-wait.result d.reactor.gathering n.gathering before done after (state_of n)
          gathers f.1 c.write_gathered.ensures.flushed refl,
    ))
    (λ e.
    let h = rw (← c.self-2.view_is) at (c.hear_next-heard.ensures.halts e) in
    gathers-ends HaltsDialed (trace d.reactor.wires) (trace n.wires) (trace m.reactor.wires) (trace w.wires) (patience c.args.wait d.failed.items) c.gather-wait.result d.reactor.gathering n.gathering before done after (state_of n)
    gathers h c.write_gathered.ensures.flushed refl)
    (c.write_gathered.ensures.bound ∙ (rw (← c.self-2.view_is) at c.hear_next-heard.ensures.bound) ∙ c.gather-wait.ensures.bound) (rw (← c.self-2.view_is) at c.hear_next-heard.ensures.addresses) c.write_gathered.ensures.gathering)

pub returns-else-is_err-clause-heard : goal.returns-else-is_err-clause-heard
returns-else-is_err-clause-heard g c =
    let trace = g.W.Wires.trace in
    let d = c.self.inside in
    let n = c.gather-wait.new.self in
    let m = c.hear_next-heard.new.self in
    let before : DialerState = record { door = record { lanes = d.reactor.lanes.items; from = d.reactor.from; named = d.reactor.named; moment = d.reactor.moment }; numbers = d.numbers.items; failed = d.failed.items; last = d.last } in
    let gathers = rw (← c.self.view_is) at (rw c.patience-wait.ensures at c.gather-wait.ensures.gathers) in
    rw (← c.self.view_is) (heard-goes g.W.Wires.trace g.W.Wires.wires g.W.Wires.faults c.args.wait c.hear_next-heard.result
    (record { reactor = d.reactor; addresses = d.addresses.items; numbers = d.numbers.items; failed = d.failed.items; last = d.last }) m (search rules)
    (rw c.hear_next-heard.ensures.gathering (gathers-hears c.hear_next-heard.result (trace d.reactor.wires) (trace n.wires) (trace m.reactor.wires) (patience c.args.wait d.failed.items) c.gather-wait.result d.reactor.gathering n.gathering before
    (record { door = state_of m.reactor; numbers = m.numbers; failed = m.failed; last = m.last }) (state_of n) gathers c.hear_next-heard.ensures.hears))
    (c.hear_next-heard.ensures.bound ∙ c.gather-wait.ensures.bound) c.hear_next-heard.ensures.addresses)
