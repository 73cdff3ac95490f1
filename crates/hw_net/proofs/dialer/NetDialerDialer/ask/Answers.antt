use Rattle.std.proofs.Common.{rules, ◌≡◌, ◌+◌, ◌++◌, ◌∷◌, [], ◌∙◌, None, Some, Err, refl, ap}
use Rattle.std.proofs.lemmas.Result.{err_from_is_err_and}
use Rattle.hw_door.specs.Traffic.{IsNewWire}
use Rattle.hw_net.specs.Lane.{wires_of}
use Rattle.hw_net.specs.Door.{DoorState}
use Rattle.hw_net.proofs.Dialing.{asked-goes, dialed-state, failed-state, nothing-told, same-state, unasked-goes}
use Rattle.hw_net.proofs.LaneNumbering.{numbered-dialed, numbered-failed, numbered-still}
use Rattle.hw_net.proofs.dialer.NetDialerDialer.ask.Goals as goal

pub returns-then-self-clause-given : goal.returns-then-self-clause-given
returns-then-self-clause-given g c =
    let d = c.self.inside in
    rw (← c.self.view_is) (unasked-goes g.W.Wires.trace g.W.Wires.wires g.W.Wires.faults c.args.place c.args.method c.args.target.now c.args.upgrade _ (record { reactor = d.reactor; addresses = d.addresses.items; numbers = d.numbers.items; failed = d.failed.items; last = d.last }) (record { reactor = d.reactor; addresses = d.addresses.items; numbers = d.numbers.items; failed = d.failed.items; last = d.last }) refl (nothing-told (g.W.Wires.trace d.reactor.wires) (g.W.Wires.wires d.reactor.wires)) refl refl
    refl)

pub returns-in_default-clause-given : goal.returns-in_default-clause-given
returns-in_default-clause-given g c =
    let bound = g.W.Wires.wires in
    let d = c.self.inside in
    let e = c.dial_at.new.reactor in
    let none : c.in_ok-wire.field-0 ≡ None = search rules in
    let numbers : c.reserve.new.self.items ≡ d.numbers.items = search rules in
    let unheard : c.push_reserved.new.self.items ≡ d.failed.items ++ (d.last + 1) ∷ [] = search rules in
    let fresh : IsNewWire (bound d.reactor.wires) (bound e.wires) None = rw none at c.in_ok-wire.ensures.fresh in
    let told = rw c.deref.ensures.value at (rw none at c.in_ok-wire.ensures.dialed) in
    rw (← c.self.view_is) (asked-goes g.W.Wires.trace g.W.Wires.wires g.W.Wires.faults c.args.place (d.last + 1) c.args.method c.args.target.now c.args.upgrade None (record { reactor = d.reactor; addresses = d.addresses.items; numbers = d.numbers.items; failed = d.failed.items; last = d.last })
    (record { reactor = e; addresses = d.addresses.items; numbers = c.reserve.new.self.items; failed = c.push_reserved.new.self.items; last = d.last + 1 }) refl told fresh
    (failed-state (record { reactor = d.reactor; addresses = d.addresses.items; numbers = d.numbers.items; failed = d.failed.items; last = d.last }) (record { reactor = e; addresses = d.addresses.items; numbers = c.reserve.new.self.items; failed = c.push_reserved.new.self.items; last = d.last + 1 }) numbers unheard refl) refl c.in_ok-wire.ensures.gathering)

pub returns-clause-given : goal.returns-clause-given
returns-clause-given g c =
    let bound = g.W.Wires.wires in
    let d = c.self.inside in
    let e = c.dial_at.new.reactor in
    let wire = c.in-Some.wire in
    let numbers : c.push_reserved-2.new.self.items ≡ d.numbers.items ++ (record { lane = d.last + 1; wire = wire }) ∷ [] = search rules in
    let unheard : c.reserve-2.new.self.items ≡ d.failed.items = search rules in
    let fresh : IsNewWire (bound d.reactor.wires) (bound e.wires) (Some wire) = rw c.in-Some.is at c.in_ok-wire.ensures.fresh in
    let told = rw c.deref.ensures.value at (rw c.in-Some.is at c.in_ok-wire.ensures.dialed) in
    rw (← c.self.view_is) (asked-goes g.W.Wires.trace g.W.Wires.wires g.W.Wires.faults c.args.place (d.last + 1) c.args.method c.args.target.now c.args.upgrade (Some wire) (record { reactor = d.reactor; addresses = d.addresses.items; numbers = d.numbers.items; failed = d.failed.items; last = d.last })
    (record { reactor = e; addresses = d.addresses.items; numbers = c.push_reserved-2.new.self.items; failed = c.reserve-2.new.self.items; last = d.last + 1 }) refl told fresh
    (dialed-state wire (record { reactor = d.reactor; addresses = d.addresses.items; numbers = d.numbers.items; failed = d.failed.items; last = d.last }) (record { reactor = e; addresses = d.addresses.items; numbers = c.push_reserved-2.new.self.items; failed = c.reserve-2.new.self.items; last = d.last + 1 }) numbers unheard refl) refl c.in_ok-wire.ensures.gathering)

pub returns-in_err-reserve-clause-given : goal.returns-in_err-reserve-clause-given
returns-in_err-reserve-clause-given g c =
    let d = c.self.inside in
    let p = err_from_is_err_and c.from_residual.result c.from_residual.ensures.1 in
    let numbers : c.reserve.new.self.items ≡ d.numbers.items = search rules in
    rw (← c.self.view_is) (unasked-goes g.W.Wires.trace g.W.Wires.wires g.W.Wires.faults c.args.place c.args.method c.args.target.now c.args.upgrade c.from_residual.result (record { reactor = d.reactor; addresses = d.addresses.items; numbers = d.numbers.items; failed = d.failed.items; last = d.last }) (record { reactor = d.reactor; addresses = d.addresses.items; numbers = c.reserve.new.self.items; failed = d.failed.items; last = d.last })
    (p.1 ∙ ap Err p.2) (nothing-told (g.W.Wires.trace d.reactor.wires) (g.W.Wires.wires d.reactor.wires)) (same-state (record { reactor = d.reactor; addresses = d.addresses.items; numbers = d.numbers.items; failed = d.failed.items; last = d.last }) (record { reactor = d.reactor; addresses = d.addresses.items; numbers = c.reserve.new.self.items; failed = d.failed.items; last = d.last }) refl numbers refl refl) refl refl)

pub returns-in_err-reserve-2-clause-given : goal.returns-in_err-reserve-2-clause-given
returns-in_err-reserve-2-clause-given g c =
    let d = c.self.inside in
    let p = err_from_is_err_and c.from_residual-in_err-reserve-2.result c.from_residual-in_err-reserve-2.ensures.1 in
    let numbers : c.reserve.new.self.items ≡ d.numbers.items = search rules in
    let unheard : c.reserve-2.new.self.items ≡ d.failed.items = search rules in
    rw (← c.self.view_is) (unasked-goes g.W.Wires.trace g.W.Wires.wires g.W.Wires.faults c.args.place c.args.method c.args.target.now c.args.upgrade c.from_residual-in_err-reserve-2.result (record { reactor = d.reactor; addresses = d.addresses.items; numbers = d.numbers.items; failed = d.failed.items; last = d.last }) (record { reactor = d.reactor; addresses = d.addresses.items; numbers = c.reserve.new.self.items; failed = c.reserve-2.new.self.items; last = d.last })
    (p.1 ∙ ap Err p.2) (nothing-told (g.W.Wires.trace d.reactor.wires) (g.W.Wires.wires d.reactor.wires)) (same-state (record { reactor = d.reactor; addresses = d.addresses.items; numbers = d.numbers.items; failed = d.failed.items; last = d.last }) (record { reactor = d.reactor; addresses = d.addresses.items; numbers = c.reserve.new.self.items; failed = c.reserve-2.new.self.items; last = d.last }) refl numbers unheard refl) refl refl)

pub returns-in_err-wire-clause-given : goal.returns-in_err-wire-clause-given
returns-in_err-wire-clause-given g c =
    let d = c.self.inside in
    let e = c.dial_at.new.reactor in
    let p = err_from_is_err_and c.from_residual-in_err-wire.result c.from_residual-in_err-wire.ensures.1 in
    let numbers : c.reserve.new.self.items ≡ d.numbers.items = search rules in
    let unheard : c.reserve-2.new.self.items ≡ d.failed.items = search rules in
    let cut = c.in_err-wire.ensures in
    rw (← c.self.view_is) (unasked-goes g.W.Wires.trace g.W.Wires.wires g.W.Wires.faults c.args.place c.args.method c.args.target.now c.args.upgrade c.from_residual-in_err-wire.result (record { reactor = d.reactor; addresses = d.addresses.items; numbers = d.numbers.items; failed = d.failed.items; last = d.last }) (record { reactor = e; addresses = d.addresses.items; numbers = c.reserve.new.self.items; failed = c.reserve-2.new.self.items; last = d.last })
    (p.1 ∙ ap Err (p.2 ∙ cut.memory)) cut.halts (same-state (record { reactor = d.reactor; addresses = d.addresses.items; numbers = d.numbers.items; failed = d.failed.items; last = d.last }) (record { reactor = e; addresses = d.addresses.items; numbers = c.reserve.new.self.items; failed = c.reserve-2.new.self.items; last = d.last }) cut.unchanged numbers unheard refl) refl cut.gathering)

pub invariant_of-self-in_err-wire : goal.invariant_of-self-in_err-wire
invariant_of-self-in_err-wire g c =
    let bound = g.W.Wires.wires in
    let d = c.self.inside in
    let e = c.dial_at.new.reactor in
    let numbers : c.reserve.new.self.items ≡ d.numbers.items = search rules in
    let unheard : c.reserve-2.new.self.items ≡ d.failed.items = search rules in
    rw numbers (rw unheard (numbered-still (bound d.reactor.wires) (bound e.wires) d.reactor.lanes.items e.lanes.items d.numbers.items d.failed.items d.last c.in_err-wire.ensures.bound
    (ap (λ (s : DoorState). wires_of s.lanes) c.in_err-wire.ensures.unchanged) c.self.invariant))

pub invariant_of-self-in_default : goal.invariant_of-self-in_default
invariant_of-self-in_default g c =
    let bound = g.W.Wires.wires in
    let d = c.self.inside in
    let e = c.dial_at.new.reactor in
    let none : c.in_ok-wire.field-0 ≡ None = search rules in
    let numbers : c.reserve.new.self.items ≡ d.numbers.items = search rules in
    let unheard : c.push_reserved.new.self.items ≡ d.failed.items ++ (d.last + 1) ∷ [] = search rules in
    rw numbers (rw unheard (numbered-failed (bound d.reactor.wires) (bound e.wires) d.reactor.lanes.items e.lanes.items d.numbers.items d.failed.items d.last (rw none at c.in_ok-wire.ensures.lanes)
    c.in_ok-wire.ensures.bound c.self.invariant))

pub invariant_of-self-2 : goal.invariant_of-self-2
invariant_of-self-2 g c =
    let bound = g.W.Wires.wires in
    let d = c.self.inside in
    let e = c.dial_at.new.reactor in
    let wire = c.in-Some.wire in
    let numbers : c.push_reserved-2.new.self.items ≡ d.numbers.items ++ (record { lane = d.last + 1; wire = wire }) ∷ [] = search rules in
    let unheard : c.reserve-2.new.self.items ≡ d.failed.items = search rules in
    let fresh : IsNewWire (bound d.reactor.wires) (bound e.wires) (Some wire) = rw c.in-Some.is at c.in_ok-wire.ensures.fresh in
    rw numbers (rw unheard (numbered-dialed (bound d.reactor.wires) (bound e.wires) wire d.reactor.lanes.items e.lanes.items d.numbers.items d.failed.items d.last (rw c.in-Some.is at c.in_ok-wire.ensures.lanes)
    fresh.0 fresh.1 c.self.invariant))
