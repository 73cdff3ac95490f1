use Rattle.std.proofs.Common.{◌≡◌, sym, refl, ◌∙◌}
use Rattle.hw_door.specs.DoorCalls.{given_in}
use Rattle.hn_dialing.specs.Calls.{AreNewLanes}
use Rattle.hn_dialing.proofs.Asked.{undrawn}
use Rattle.hn_dialing.proofs.Noted.{IsOpen, asking_first}
use Rattle.hn_dialing.proofs.Telling.{at_most_itself, lots_kept, none_drawn, on_err}
use Rattle.hn_dialing.proofs.connection.Connection.dial.Goals as goal

pub returns-then-not-is_due-clause-dialed : goal.returns-then-not-is_due-clause-dialed
returns-then-not-is_due-clause-dialed g c = (
  undrawn (g.D.Dialer.lanes c.args.dialer.now),
  at_most_itself (g.D.Dialer.lanes c.args.dialer.now),
  (refl, ((g.met.D.Dialer.stays c.args.dialer.now), at_most_itself (g.D.Dialer.lanes c.args.dialer.now)), (none_drawn (g.L.Lots.drawn c.args.lots.now), refl)),
)

pub returns-in_err-over_if_failed-clause-lots : goal.returns-in_err-over_if_failed-clause-lots
returns-in_err-over_if_failed-clause-lots g c = on_err (g.L.Lots.faults c.ask-asked.new.lots ≡ g.L.Lots.faults c.args.lots.now) c.from_residual.result (lots_kept IsOpen (asking_first c.ask-asked.ensures.asked.0) c.args.self.now c.ask-asked.new.self
    (λ calls. g.D.Dialer.Goes c.args.dialer.now calls c.ask-asked.new.dialer × AreNewLanes (given_in calls) (g.D.Dialer.lanes c.args.dialer.now) (g.D.Dialer.lanes c.ask-asked.new.dialer)) (g.L.Lots.drawn c.args.lots.now) (g.L.Lots.drawn c.ask-asked.new.lots) (g.L.Lots.faults c.args.lots.now)
    (g.L.Lots.faults c.ask-asked.new.lots) c.in_err-over_if_failed.field-0.0 c.ask-asked.result (sym c.over_if_failed.ensures.same ∙ c.in_err-over_if_failed.was) c.ask-asked.ensures.asked.2)
