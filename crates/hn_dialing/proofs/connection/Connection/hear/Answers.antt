use Rattle.std.proofs.Common.{◌≡◌, sym, refl, ◌∙◌}
use Rattle.hw_door.specs.Calls.{AddsSome}
use Rattle.hw_door.specs.DoorCalls.{given_in}
use Rattle.hn_dialing.specs.Calls.{AreNewLanes, IsCountOf}
use Rattle.hn_dialing.proofs.Answered.{NoEarlier, heard_over, hearing}
use Rattle.hn_dialing.proofs.Asked.{undrawn}
use Rattle.hn_dialing.proofs.Keeping.{is_over_then}
use Rattle.hn_dialing.proofs.Telling.{at_most_itself, lots_kept, none_drawn, on_err}
use Rattle.hn_dialing.proofs.connection.Connection.hear.Goals as goal

pub returns-then-is_over-clause-heard : goal.returns-then-is_over-clause-heard
returns-then-is_over-clause-heard g c = (
  undrawn (g.D.Dialer.lanes c.args.dialer.now),
  at_most_itself (g.D.Dialer.lanes c.args.dialer.now),
  heard_over c.args.self.now (undrawn (g.D.Dialer.lanes c.args.dialer.now)) c.args.now (λ calls. g.D.Dialer.Goes c.args.dialer.now calls c.args.dialer.now × AreNewLanes (given_in calls) (g.D.Dialer.lanes c.args.dialer.now) (g.D.Dialer.lanes c.args.dialer.now))
      (λ drawn. AddsSome (g.L.Lots.drawn c.args.lots.now) (g.L.Lots.drawn c.args.lots.now) drawn × IsCountOf drawn (g.L.Lots.faults c.args.lots.now) (g.L.Lots.faults c.args.lots.now))
      ((g.met.D.Dialer.stays c.args.dialer.now), at_most_itself (g.D.Dialer.lanes c.args.dialer.now)) (none_drawn (g.L.Lots.drawn c.args.lots.now), refl) (is_over_then c.args.self.now.phase (sym c.is_over.ensures ∙ c.if-is_over.true)) c.args.event.now,
)

pub returns-in_err-over_if_failed-clause-lots : goal.returns-in_err-over_if_failed-clause-lots
returns-in_err-over_if_failed-clause-lots g c = on_err (g.L.Lots.faults c.answer-heard.new.lots ≡ g.L.Lots.faults c.args.lots.now) c.from_residual.result (lots_kept (NoEarlier c.args.now) (hearing c.answer-heard.ensures.heard.0 c.args.now c.args.event.now) c.args.self.now c.answer-heard.new.self
    (λ calls. g.D.Dialer.Goes c.args.dialer.now calls c.answer-heard.new.dialer × AreNewLanes (given_in calls) (g.D.Dialer.lanes c.args.dialer.now) (g.D.Dialer.lanes c.answer-heard.new.dialer)) (g.L.Lots.drawn c.args.lots.now) (g.L.Lots.drawn c.answer-heard.new.lots) (g.L.Lots.faults c.args.lots.now)
    (g.L.Lots.faults c.answer-heard.new.lots) c.in_err-over_if_failed.field-0.0 c.answer-heard.result (sym c.over_if_failed.ensures.same ∙ c.in_err-over_if_failed.was) c.answer-heard.ensures.heard.2)
