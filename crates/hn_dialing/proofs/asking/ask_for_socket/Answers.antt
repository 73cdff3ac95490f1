use Rattle.std.proofs.Common.{◌∙◌, refl}
use Rattle.hn_dialing.specs.Stands.{setup_of}
use Rattle.hn_dialing.proofs.Asked.{all_drawn, half_drawn, no_key, no_seed, socket_asked_of, socket_unasked, socket_unmade, undrawn}
use Rattle.hn_dialing.proofs.Telling.{at_most_itself}
use Rattle.hn_dialing.proofs.asking.ask_for_socket.Goals as goal

pub returns-in_err-target-clause-asked : goal.returns-in_err-target-clause-asked
returns-in_err-target-clause-asked g c =
    let p = socket_unmade (setup_of c.args.setup.now) c.args.token.now (λ calls. g.D.Dialer.Goes c.args.dialer.now calls c.args.dialer.now) (g.D.Dialer.lanes c.args.dialer.now)
    (g.D.Dialer.lanes c.args.dialer.now) (g.L.Lots.drawn c.args.lots.now) (g.L.Lots.drawn c.args.lots.now) (g.L.Lots.faults c.args.lots.now) (g.L.Lots.faults c.args.lots.now)
    c.from_residual.result (g.met.D.Dialer.stays c.args.dialer.now) refl refl refl c.from_residual.ensures.1 in
    (undrawn (g.D.Dialer.lanes c.args.dialer.now), p.0, p.1, p.2)

pub returns-in_default-clause-asked : goal.returns-in_default-clause-asked
returns-in_default-clause-asked g c = (
  undrawn (g.D.Dialer.lanes c.args.dialer.now),
  at_most_itself (g.D.Dialer.lanes c.args.dialer.now),
  no_key (setup_of c.args.setup.now) c.args.token.now (λ calls. g.D.Dialer.Goes c.args.dialer.now calls c.args.dialer.now) (g.D.Dialer.lanes c.args.dialer.now)
      (g.D.Dialer.lanes c.args.dialer.now) (g.L.Lots.drawn c.args.lots.now) (g.L.Lots.drawn c.draw.new.self) (g.L.Lots.faults c.args.lots.now) (g.L.Lots.faults c.draw.new.self)
      (g.met.D.Dialer.stays c.args.dialer.now) refl c.in_default.ensures.trace c.in_default.ensures.cause.later c.in_default.ensures.cause.failed,
  refl,
)

pub returns-in_default-draw-clause-asked : goal.returns-in_default-draw-clause-asked
returns-in_default-draw-clause-asked g c = (
  half_drawn (g.D.Dialer.lanes c.args.dialer.now) c.in-Ok.key,
  at_most_itself (g.D.Dialer.lanes c.args.dialer.now),
  no_seed (setup_of c.args.setup.now) c.args.token.now (λ calls. g.D.Dialer.Goes c.args.dialer.now calls c.args.dialer.now) (g.D.Dialer.lanes c.args.dialer.now)
      (g.D.Dialer.lanes c.args.dialer.now) (g.L.Lots.drawn c.args.lots.now) (g.L.Lots.drawn c.draw-2.new.self) (g.L.Lots.faults c.args.lots.now) (g.L.Lots.faults c.draw-2.new.self)
      c.in-Ok.key (g.L.Lots.drawn c.draw.new.self) (g.L.Lots.faults c.draw.new.self) (g.met.D.Dialer.stays c.args.dialer.now) refl c.in-Ok.ensures.trace c.in-Ok.ensures.cause.unfailed
      c.in_default-draw.ensures.trace c.in_default-draw.ensures.cause.later c.in_default-draw.ensures.cause.failed,
  refl,
)

pub returns-in_err-lane-clause-asked : goal.returns-in_err-lane-clause-asked
returns-in_err-lane-clause-asked g c =
    let p = socket_unasked (setup_of c.args.setup.now) c.args.token.now (λ calls. g.D.Dialer.Goes c.args.dialer.now calls c.ask.new.self) (g.D.Dialer.lanes c.args.dialer.now)
    (g.D.Dialer.lanes c.ask.new.self) (g.L.Lots.drawn c.args.lots.now) (g.L.Lots.drawn c.draw-2.new.self) (g.L.Lots.faults c.args.lots.now) (g.L.Lots.faults c.draw-2.new.self)
    c.in_err-lane.ensures.given.1 c.as_str.result.now c.in-Ok.key c.in-Ok-draw.seed c.in_err-lane.field-0.0 c.from_residual-in_err-lane.result (g.L.Lots.drawn c.draw.new.self)
    (g.L.Lots.faults c.draw.new.self) c.in_err-lane.ensures.given.2 (c.as_str.ensures.value ∙ c.in_ok-target.ensures) c.in_err-lane.ensures.fresh c.in-Ok.ensures.trace
    c.in-Ok.ensures.cause.unfailed c.in-Ok-draw.ensures.trace c.in-Ok-draw.ensures.cause.unfailed c.from_residual-in_err-lane.ensures.1 in
    (all_drawn c.in_err-lane.ensures.given.1 c.in-Ok.key c.in-Ok-draw.seed, p.0, p.1, p.2)

pub returns-clause-asked : goal.returns-clause-asked
returns-clause-asked g c = (
  all_drawn c.in_ok-lane.lane c.in-Ok.key c.in-Ok-draw.seed,
  c.in_ok-lane.ensures.fresh.0,
  socket_asked_of (setup_of c.args.setup.now) c.args.token.now (λ calls. g.D.Dialer.Goes c.args.dialer.now calls c.ask.new.self) (g.D.Dialer.lanes c.args.dialer.now)
      (g.D.Dialer.lanes c.ask.new.self) (g.L.Lots.drawn c.args.lots.now) (g.L.Lots.drawn c.draw-2.new.self) (g.L.Lots.faults c.args.lots.now) (g.L.Lots.faults c.draw-2.new.self)
      c.in_ok-lane.lane c.as_str.result.now c.in-Ok.key c.in-Ok-draw.seed c.in_ok-lane.ensures.given.0 (g.L.Lots.drawn c.draw.new.self) (g.L.Lots.faults c.draw.new.self)
      c.in_ok-lane.ensures.given.2 (c.as_str.ensures.value ∙ c.in_ok-target.ensures) c.in_ok-lane.ensures.fresh c.in-Ok.ensures.trace c.in-Ok.ensures.cause.unfailed
      c.in-Ok-draw.ensures.trace c.in-Ok-draw.ensures.cause.unfailed,
  refl,
)
