use Rattle.std.proofs.Common.{rules, ◌≡◌, ◌∙◌, refl, ap}
use Rattle.hw_net.specs.Dialer.{DialerState, cleared, dialer_state_of}
use Rattle.hw_net.proofs.Dialing.{fails-dialed, halts-dialed, hears-dialed, state-is}
use Rattle.hw_net.proofs.dialer.NetDialer.hear_next.Goals as goal

pub returns-clause-hears : goal.returns-clause-hears
returns-clause-hears g c =
    let trace = g.W.Wires.trace in
    let d = c.self.inside in
    let e = c.poll.new.self in
    let mid : DialerState = record { door = record { lanes = d.reactor.lanes.items; from = d.reactor.from; named = d.reactor.named; moment = d.reactor.moment }; numbers = d.numbers.items; failed = d.failed.items; last = d.last } in
    let turned : DialerState = record { door = record { lanes = e.lanes.items; from = e.from; named = e.named; moment = e.moment }; numbers = d.numbers.items; failed = d.failed.items; last = d.last } in
    let same : mid ≡ cleared (dialer_state_of c.args.self.now) = ap (λ p. dialer_state_of p) c.self.view_is ∙ c.clear.ensures.cleared in
    let still : turned ≡ mid = state-is e.lanes.items d.reactor.lanes.items e.from d.reactor.from e.named d.reactor.named e.moment d.reactor.moment d.numbers.items d.numbers.items d.failed.items d.last (search rules) (search rules) (search rules)
    (search rules) refl in
    let wires : d.reactor.wires ≡ c.args.self.now.reactor.wires = ap (λ p. p.reactor.wires) c.self.view_is ∙ c.clear.ensures.wires in
    rw (← wires) (hears-dialed (trace d.reactor.wires) (trace e.wires) (trace c.hear.new.self.reactor.wires) c.args.wait c.in_ok-now.now (dialer_state_of c.args.self.now) mid turned (dialer_state_of c.hear.new.self)
    c.in_ok-event.event same still c.in_ok-now.ensures.polled c.in_ok-event.ensures.hears)

pub returns-in_err-now-clause-fails : goal.returns-in_err-now-clause-fails
returns-in_err-now-clause-fails g c = λ failed.
    let trace = g.W.Wires.trace in
    let d = c.self.inside in
    let e = c.poll.new.self in
    let mid : DialerState = record { door = record { lanes = d.reactor.lanes.items; from = d.reactor.from; named = d.reactor.named; moment = d.reactor.moment }; numbers = d.numbers.items; failed = d.failed.items; last = d.last } in
    let turned : DialerState = record { door = record { lanes = e.lanes.items; from = e.from; named = e.named; moment = e.moment }; numbers = d.numbers.items; failed = d.failed.items; last = d.last } in
    let same : mid ≡ cleared (dialer_state_of c.args.self.now) = ap (λ p. dialer_state_of p) c.self.view_is ∙ c.clear.ensures.cleared in
    let still : turned ≡ mid = state-is e.lanes.items d.reactor.lanes.items e.from d.reactor.from e.named d.reactor.named e.moment d.reactor.moment d.numbers.items d.numbers.items d.failed.items d.last (search rules) (search rules) (search rules)
    (search rules) refl in
    let wires : d.reactor.wires ≡ c.args.self.now.reactor.wires = ap (λ p. p.reactor.wires) c.self.view_is ∙ c.clear.ensures.wires in
    let f = c.in_err-now.ensures.failed in
    rw (← wires) (f.1, fails-dialed (trace d.reactor.wires) (trace e.wires) c.args.wait (dialer_state_of c.args.self.now) mid turned same still f.2)

pub returns-in_err-event-clause-halts : goal.returns-in_err-event-clause-halts
returns-in_err-event-clause-halts g c = λ halted.
    let trace = g.W.Wires.trace in
    let d = c.self.inside in
    let e = c.poll.new.self in
    let mid : DialerState = record { door = record { lanes = d.reactor.lanes.items; from = d.reactor.from; named = d.reactor.named; moment = d.reactor.moment }; numbers = d.numbers.items; failed = d.failed.items; last = d.last } in
    let turned : DialerState = record { door = record { lanes = e.lanes.items; from = e.from; named = e.named; moment = e.moment }; numbers = d.numbers.items; failed = d.failed.items; last = d.last } in
    let same : mid ≡ cleared (dialer_state_of c.args.self.now) = ap (λ p. dialer_state_of p) c.self.view_is ∙ c.clear.ensures.cleared in
    let still : turned ≡ mid = state-is e.lanes.items d.reactor.lanes.items e.from d.reactor.from e.named d.reactor.named e.moment d.reactor.moment d.numbers.items d.numbers.items d.failed.items d.last (search rules) (search rules) (search rules)
    (search rules) refl in
    let wires : d.reactor.wires ≡ c.args.self.now.reactor.wires = ap (λ p. p.reactor.wires) c.self.view_is ∙ c.clear.ensures.wires in
    rw (← wires) (halts-dialed (trace d.reactor.wires) (trace e.wires) (trace c.hear.new.self.reactor.wires) c.args.wait c.in_ok-now.now (dialer_state_of c.args.self.now) mid turned (dialer_state_of c.hear.new.self) same still
    c.in_ok-now.ensures.polled c.in_err-event.ensures.halts)
