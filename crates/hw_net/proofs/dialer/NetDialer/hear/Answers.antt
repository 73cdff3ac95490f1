use Rattle.std.proofs.Common.{rules, ◌≡◌, ◌∙◌, ◌∷◌, ℕ, List, refl, ap, subst}
use Rattle.hw_net.specs.Door.{lane_of, state_of}
use Rattle.hw_net.specs.LaneNumbers.{lane_on, with_lane}
use Rattle.hw_net.specs.Numbered.{AreNumbered}
use Rattle.hw_net.proofs.Dialing.{first-of, hears-failed, hears-turned, none-of, state-is}
use Rattle.hw_net.proofs.Halting.{on-err}
use Rattle.hw_net.proofs.LaneNumbering.{numbered-heard}
use Rattle.hw_net.proofs.dialer.NetDialer.hear.Goals as goal

pub returns-then-not-is_empty-clause-hears : goal.returns-then-not-is_empty-clause-hears
returns-then-not-is_empty-clause-hears g c =
    let d = c.self.inside in
    let lane = c.remove-lane.result in
    let rest = c.remove-lane.new.self.items in
    let all : d.failed.items ≡ lane ∷ rest = first-of d.failed.items rest lane lane (search rules) c.remove-lane.ensures.value c.remove-lane.ensures.items in
    rw (← c.self.view_is) (rw c.advance.ensures (hears-failed (g.W.Wires.trace d.reactor.wires) d.failed.items rest lane c.args.now
    (record { door = record { lanes = d.reactor.lanes.items; from = d.reactor.from; named = d.reactor.named; moment = d.reactor.moment }; numbers = d.numbers.items; failed = d.failed.items; last = d.last })
    (record { door = record { lanes = d.reactor.lanes.items; from = d.reactor.from; named = d.reactor.named; moment = c.args.now }; numbers = d.numbers.items; failed = rest; last = d.last }) all refl))

pub invariant_of-self : goal.invariant_of-self
invariant_of-self g c =
    let d = c.self.inside in
    let bound = g.W.Wires.wires d.reactor.wires in
    let lane = c.remove-lane.result in
    let rest = c.remove-lane.new.self.items in
    let all : d.failed.items ≡ lane ∷ rest = first-of d.failed.items rest lane lane (search rules) c.remove-lane.ensures.value c.remove-lane.ensures.items in
    let before = subst (λ (f : List ℕ). AreNumbered bound d.reactor.lanes.items d.numbers.items f d.last) all c.self.invariant in
    rw c.advance.ensures (numbered-heard bound d.reactor.lanes.items d.numbers.items lane rest d.last before)

pub returns-clause-hears : goal.returns-clause-hears
returns-clause-hears g c =
    let trace = g.W.Wires.trace in
    let d = c.self.inside in
    let e = c.hear.new.self in
    let event = c.in_ok-event.event in
    let on = c.with_lane.ensures ∙ ap (λ n. with_lane n event) (c.lane_on-lane.ensures ∙ ap (λ w. lane_on w c.deref.result.now) c.lane_of.ensures ∙ ap (λ l. lane_on (lane_of event) l) c.deref.ensures.value) in
    rw (← c.self.view_is) (rw c.advance-2.ensures (hears-turned (trace d.reactor.wires) (trace e.wires) d.failed.items c.args.now
    (record { door = record { lanes = d.reactor.lanes.items; from = d.reactor.from; named = d.reactor.named; moment = d.reactor.moment }; numbers = d.numbers.items; failed = d.failed.items; last = d.last })
    (record { door = record { lanes = e.lanes.items; from = e.from; named = e.named; moment = c.args.now }; numbers = d.numbers.items; failed = d.failed.items; last = d.last })
    (state_of e) event c.with_lane.result (none-of d.failed.items (search rules)) (search rules) on refl))

pub returns-in_err-event-clause-halts : goal.returns-in_err-event-clause-halts
returns-in_err-event-clause-halts g c =
    let d = c.self.inside in
    let e = c.hear.new.self in
    let h = c.in_err-event.ensures.halts in
    let none = none-of d.failed.items (search rules) in
    rw (← c.self.view_is) (on-err c.from_residual.result (
      h.2.0,
      h.2.1,
      (
        h.0,
        none,
        h.1,
        h.2.2,
        state-is e.lanes.items e.lanes.items e.from d.reactor.from e.named e.named e.moment d.reactor.moment d.numbers.items d.numbers.items d.failed.items d.last refl (search rules) refl (search rules) refl,
      ),
    ))
