use Rattle.std.proofs.Common.{rules, ◌∷◌, [], Some, refl, inl, inr}
use Rattle.hw_door.specs.Traffic.{polled, accepted, accept_failed, was_shut}
use Rattle.hw_net.specs.Door.{kept, time_to_wait}
use Rattle.hw_net.specs.Trace.{Tells}
use Rattle.hw_net.proofs.Sweeps.{hears-next, keeps-accepted}
use Rattle.hw_net.proofs.Telling.{tells-more}
use Rattle.hw_net.proofs.Halting.{halts-next}
use Rattle.hw_net.proofs.door.NetDoor.hear_next.Goals as goal

pub returns-clause-hears : goal.returns-clause-hears
returns-clause-hears g c =
    let trace = g.W.Wires.trace in
    let q = c.in_ok-accept.ensures.accepted in
    rw (← c.self.view_is) (rw c.advance.ensures (hears-next (trace c.self.inside.reactor.wires) (trace c.poll.new.self.wires) (trace c.accept.new.self.wires) (trace c.hear.new.self.wires) c.args.wait c.in_ok-now.now c.self.inside.reactor.from c.self.inside.reactor.moment
    c.hear.new.self.from c.self.inside.reactor.named c.hear.new.self.named c.self.inside.reactor.lanes.items c.poll.new.self.lanes.items c.accept.new.self.lanes.items c.hear.new.self.lanes.items c.in_ok-event.event
    (search rules) (search rules) (q.0, q.1, q.2) (search rules)))

pub returns-in_err-accept-clause-fails : goal.returns-in_err-accept-clause-fails
returns-in_err-accept-clause-fails g c = rw (← c.self.view_is) (λ e.
    let trace = g.W.Wires.trace in
    let p = c.in_ok-now.ensures.polled in
    let wait = time_to_wait c.args.wait (kept c.self.inside.reactor.lanes.items) in
    let f = c.in_err-accept.ensures.failed (search rules) in
    let first : Tells (trace c.self.inside.reactor.wires) (trace c.poll.new.self.wires) (polled wait p.0 ∷ []) = search rules in (
      search rules,
      (
        polled wait p.0 ∷ accept_failed ∷ [],
        tells-more (trace c.self.inside.reactor.wires) (trace c.poll.new.self.wires) (trace c.accept.new.self.wires) (polled wait p.0 ∷ []) (accept_failed ∷ []) first f.1,
        inr (p.0, refl),
      ),
    ))

pub returns-clause-lanes : goal.returns-clause-lanes
returns-clause-lanes g c =
    let q = c.in_ok-accept.ensures.accepted in
    let bound = g.W.Wires.wires in
    rw (← c.self.view_is) (rw c.advance.ensures (keeps-accepted (bound c.self.inside.reactor.wires) (bound c.poll.new.self.wires) (bound c.accept.new.self.wires) (bound c.hear.new.self.wires) c.in_ok-now.now q.0 c.self.inside.reactor.lanes.items
    c.accept.new.self.lanes.items c.hear.new.self.lanes.items (search rules) q.3 c.hear.ensures.bound (search rules) c.hear.ensures.lanes))

pub returns-in_err-accept-clause-halts : goal.returns-in_err-accept-clause-halts
returns-in_err-accept-clause-halts g c = rw (← c.self.view_is) (λ e.
    let trace = g.W.Wires.trace in
    let p = c.in_ok-now.ensures.polled in
    let wait = time_to_wait c.args.wait (kept c.self.inside.reactor.lanes.items) in
    let f = c.in_err-accept.ensures.told (search rules) in
    let first : Tells (trace c.self.inside.reactor.wires) (trace c.poll.new.self.wires) (polled wait p.0 ∷ []) = search rules in (
      polled wait p.0 ∷ accepted (Some f.0) ∷ was_shut f.0 ∷ [],
      tells-more (trace c.self.inside.reactor.wires) (trace c.poll.new.self.wires) (trace c.accept.new.self.wires) (polled wait p.0 ∷ []) (accepted (Some f.0) ∷ was_shut f.0 ∷ []) first f.1,
      inl (p.0, f.0, refl, search rules),
    ))

pub returns-in_err-event-clause-halts : goal.returns-in_err-event-clause-halts
returns-in_err-event-clause-halts g c = rw (← c.self.view_is) (λ e.
    let trace = g.W.Wires.trace in
    let q = c.in_ok-accept.ensures.accepted in
    halts-next (trace c.self.inside.reactor.wires) (trace c.poll.new.self.wires) (trace c.accept.new.self.wires) (trace c.hear.new.self.wires) c.args.wait c.in_ok-now.now c.self.inside.reactor.from c.self.inside.reactor.moment
    c.hear.new.self.from c.hear.new.self.moment c.self.inside.reactor.named c.hear.new.self.named c.self.inside.reactor.lanes.items c.poll.new.self.lanes.items c.accept.new.self.lanes.items c.hear.new.self.lanes.items
    (search rules) (search rules) (q.0, q.1, q.2) (search rules) (search rules) (search rules))

pub returns-in_err-event-clause-lanes : goal.returns-in_err-event-clause-lanes
returns-in_err-event-clause-lanes g c =
    let q = c.in_ok-accept.ensures.accepted in
    let bound = g.W.Wires.wires in
    rw (← c.self.view_is) (keeps-accepted (bound c.self.inside.reactor.wires) (bound c.poll.new.self.wires) (bound c.accept.new.self.wires) (bound c.hear.new.self.wires) c.in_ok-now.now q.0 c.self.inside.reactor.lanes.items
    c.accept.new.self.lanes.items c.hear.new.self.lanes.items (search rules) q.3 c.hear.ensures.bound (search rules) c.hear.ensures.lanes)
