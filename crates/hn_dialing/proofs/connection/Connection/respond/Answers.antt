use Rattle.std.proofs.Common.{sym, refl, ◌∙◌}
use Rattle.hw_door.specs.Calls.{AddsSome}
use Rattle.hw_door.specs.DoorCalls.{given_in}
use Rattle.hn_dialing.specs.Calls.{AreNewLanes, IsCountOf}
use Rattle.hn_dialing.proofs.Answered.{respond_learns, respond_nothing, respond_refused}
use Rattle.hn_dialing.proofs.Asked.{undrawn}
use Rattle.hn_dialing.proofs.Telling.{at_most_itself, none_drawn}
use Rattle.hn_dialing.proofs.connection.Connection.respond.Goals as goal

pub returns-then-negotiates_on-clause-answered : goal.returns-then-negotiates_on-clause-answered
returns-then-negotiates_on-clause-answered g c = (
  c.learn.ensures.negotiated.0,
  c.learn.ensures.negotiated.1,
  respond_learns c.args.self.now c.learn.ensures.negotiated.0 c.args.lane c.args.status c.args.body.now (λ calls. g.D.Dialer.Goes c.args.dialer.now calls c.learn.new.dialer × AreNewLanes (given_in calls) (g.D.Dialer.lanes c.args.dialer.now) (g.D.Dialer.lanes c.learn.new.dialer))
      (λ drawn. AddsSome (g.L.Lots.drawn c.args.lots.now) (g.L.Lots.drawn c.learn.new.lots) drawn × IsCountOf drawn (g.L.Lots.faults c.args.lots.now) (g.L.Lots.faults c.learn.new.lots))
      c.learn.new.self c.learn.result (sym c.negotiates_on.ensures ∙ c.if-negotiates_on.true) c.learn.ensures.negotiated.2,
)

pub returns-then-upgrades_on-clause-answered : goal.returns-then-upgrades_on-clause-answered
returns-then-upgrades_on-clause-answered g c = (
  undrawn (g.D.Dialer.lanes c.args.dialer.now),
  at_most_itself (g.D.Dialer.lanes c.args.dialer.now),
  respond_refused c.args.self.now (undrawn (g.D.Dialer.lanes c.args.dialer.now)) c.args.lane c.args.status c.args.body.now (λ calls. g.D.Dialer.Goes c.args.dialer.now calls c.args.dialer.now × AreNewLanes (given_in calls) (g.D.Dialer.lanes c.args.dialer.now) (g.D.Dialer.lanes c.args.dialer.now))
      (λ drawn. AddsSome (g.L.Lots.drawn c.args.lots.now) (g.L.Lots.drawn c.args.lots.now) drawn × IsCountOf drawn (g.L.Lots.faults c.args.lots.now) (g.L.Lots.faults c.args.lots.now))
      (sym c.upgrades_on.ensures ∙ c.if-upgrades_on.true) ((g.met.D.Dialer.stays c.args.dialer.now), at_most_itself (g.D.Dialer.lanes c.args.dialer.now)) (none_drawn (g.L.Lots.drawn c.args.lots.now), refl),
)

pub returns-else-upgrades_on-clause-answered : goal.returns-else-upgrades_on-clause-answered
returns-else-upgrades_on-clause-answered g c = (
  undrawn (g.D.Dialer.lanes c.args.dialer.now),
  at_most_itself (g.D.Dialer.lanes c.args.dialer.now),
  respond_nothing c.args.self.now (undrawn (g.D.Dialer.lanes c.args.dialer.now)) c.args.lane c.args.status c.args.body.now (λ calls. g.D.Dialer.Goes c.args.dialer.now calls c.args.dialer.now × AreNewLanes (given_in calls) (g.D.Dialer.lanes c.args.dialer.now) (g.D.Dialer.lanes c.args.dialer.now))
      (λ drawn. AddsSome (g.L.Lots.drawn c.args.lots.now) (g.L.Lots.drawn c.args.lots.now) drawn × IsCountOf drawn (g.L.Lots.faults c.args.lots.now) (g.L.Lots.faults c.args.lots.now))
      (sym c.negotiates_on.ensures ∙ c.if-negotiates_on.false) (sym c.upgrades_on.ensures ∙ c.if-upgrades_on.false) ((g.met.D.Dialer.stays c.args.dialer.now), at_most_itself (g.D.Dialer.lanes c.args.dialer.now)) (none_drawn (g.L.Lots.drawn c.args.lots.now), refl),
)
