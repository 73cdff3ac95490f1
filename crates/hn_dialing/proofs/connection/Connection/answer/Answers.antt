use Rattle.std.proofs.Common.{refl}
use Rattle.hw_door.specs.Calls.{AddsSome}
use Rattle.hw_door.specs.DoorCalls.{given_in}
use Rattle.hn_dialing.specs.Calls.{AreNewLanes, IsCountOf}
use Rattle.hn_dialing.proofs.Answered.{heard_lost, heard_only, heard_response, heard_risen}
use Rattle.hn_dialing.proofs.Asked.{undrawn}
use Rattle.hn_dialing.proofs.Telling.{at_most_itself, none_drawn}
use Rattle.hn_dialing.proofs.connection.Connection.answer.Goals as goal

pub returns-in-Response-clause-heard : goal.returns-in-Response-clause-heard
returns-in-Response-clause-heard g c = (
  c.respond.ensures.answered.0,
  c.respond.ensures.answered.1,
  heard_response c.args.self.now c.respond.ensures.answered.0 c.args.now (λ calls. g.D.Dialer.Goes c.args.dialer.now calls c.respond.new.dialer × AreNewLanes (given_in calls) (g.D.Dialer.lanes c.args.dialer.now) (g.D.Dialer.lanes c.respond.new.dialer))
      (λ drawn. AddsSome (g.L.Lots.drawn c.args.lots.now) (g.L.Lots.drawn c.respond.new.lots) drawn × IsCountOf drawn (g.L.Lots.faults c.args.lots.now) (g.L.Lots.faults c.respond.new.lots))
      c.what_is_new_is_told_last.ensures c.in-Response.lane c.in-Response.status c.in-Response.body c.args.event.now c.bytes.result.now c.in-Response.is c.bytes.ensures
      c.respond.new.self c.respond.result c.respond.ensures.answered.2,
)

pub returns-in-Upgraded-clause-heard : goal.returns-in-Upgraded-clause-heard
returns-in-Upgraded-clause-heard g c = (
  undrawn (g.D.Dialer.lanes c.args.dialer.now),
  at_most_itself (g.D.Dialer.lanes c.args.dialer.now),
  heard_risen c.args.self.now (undrawn (g.D.Dialer.lanes c.args.dialer.now)) c.args.now (λ calls. g.D.Dialer.Goes c.args.dialer.now calls c.args.dialer.now × AreNewLanes (given_in calls) (g.D.Dialer.lanes c.args.dialer.now) (g.D.Dialer.lanes c.args.dialer.now))
      (λ drawn. AddsSome (g.L.Lots.drawn c.args.lots.now) (g.L.Lots.drawn c.args.lots.now) drawn × IsCountOf drawn (g.L.Lots.faults c.args.lots.now) (g.L.Lots.faults c.args.lots.now))
      ((g.met.D.Dialer.stays c.args.dialer.now), at_most_itself (g.D.Dialer.lanes c.args.dialer.now)) (none_drawn (g.L.Lots.drawn c.args.lots.now), refl) c.args.event.now c.in-Upgraded.lane c.in-Upgraded.is c.rise.new.self c.rise.ensures,
)

pub returns-in-Lost-clause-heard : goal.returns-in-Lost-clause-heard
returns-in-Lost-clause-heard g c = (
  undrawn (g.D.Dialer.lanes c.args.dialer.now),
  at_most_itself (g.D.Dialer.lanes c.args.dialer.now),
  heard_lost c.args.self.now (undrawn (g.D.Dialer.lanes c.args.dialer.now)) c.args.now (λ calls. g.D.Dialer.Goes c.args.dialer.now calls c.args.dialer.now × AreNewLanes (given_in calls) (g.D.Dialer.lanes c.args.dialer.now) (g.D.Dialer.lanes c.args.dialer.now))
      (λ drawn. AddsSome (g.L.Lots.drawn c.args.lots.now) (g.L.Lots.drawn c.args.lots.now) drawn × IsCountOf drawn (g.L.Lots.faults c.args.lots.now) (g.L.Lots.faults c.args.lots.now))
      ((g.met.D.Dialer.stays c.args.dialer.now), at_most_itself (g.D.Dialer.lanes c.args.dialer.now)) (none_drawn (g.L.Lots.drawn c.args.lots.now), refl) c.in-Lost.lane c.args.event.now c.in-Lost.is c.lose.new.self c.lose.ensures,
)

pub returns-in_default : goal.returns-in_default
returns-in_default g c = record {
  heard = (
    undrawn (g.D.Dialer.lanes c.args.dialer.now),
    at_most_itself (g.D.Dialer.lanes c.args.dialer.now),
    heard_only c.args.self.now (undrawn (g.D.Dialer.lanes c.args.dialer.now)) c.args.now (λ calls. g.D.Dialer.Goes c.args.dialer.now calls c.args.dialer.now × AreNewLanes (given_in calls) (g.D.Dialer.lanes c.args.dialer.now) (g.D.Dialer.lanes c.args.dialer.now))
        (λ drawn. AddsSome (g.L.Lots.drawn c.args.lots.now) (g.L.Lots.drawn c.args.lots.now) drawn × IsCountOf drawn (g.L.Lots.faults c.args.lots.now) (g.L.Lots.faults c.args.lots.now))
        ((g.met.D.Dialer.stays c.args.dialer.now), at_most_itself (g.D.Dialer.lanes c.args.dialer.now)) (none_drawn (g.L.Lots.drawn c.args.lots.now), refl) c.args.event.now
        c.in_default.not-Response c.in_default.not-Upgraded c.in_default.not-Lost,
  );
  cause = refl;
  others_unchanged = refl;
}
