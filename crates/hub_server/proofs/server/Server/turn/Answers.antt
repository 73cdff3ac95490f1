use Rattle.std.proofs.Common.{refl}
use Rattle.hj_jobs.specs.Meaning.{meaning}
use Rattle.hub_server.specs.Lanes.{lane_of, settled}
use Rattle.hub_server.specs.Steps.{outside, lost_in}
use Rattle.hub_server.proofs.StepWent.{can_handle, turns_through}
use Rattle.hub_server.proofs.server.Server.turn.Goals as goal

pub returns : goal.returns
returns g c = record {
  turn = λ s before h stands rested may.
      let hub = meaning g.H.Hub.begin_of g.H.Hub.step_of in
      turns_through {H = g.row.H.Denot} {Job = g.row.H-Job.Denot} c.parts_of_turns.ensures hub s before c.hear.new.self c.expire.new.self c.handle.new.self c.tick_all.new.self
      c.round.new.self c.flush_all.new.self
      (outside (g.K.Keeper.holds c.args.keeper.now) (g.K.Keeper.answers c.args.keeper.now) (g.K.Keeper.faults c.args.keeper.now)
      (g.L.Lots.drawn c.args.lots.now) (g.L.Lots.faults c.args.lots.now))
      (outside (g.K.Keeper.holds c.handle.new.keeper) (g.K.Keeper.answers c.handle.new.keeper) (g.K.Keeper.faults c.handle.new.keeper)
      (g.L.Lots.drawn c.handle.new.lots) (g.L.Lots.faults c.handle.new.lots))
      (outside (g.K.Keeper.holds c.round.new.keeper) (g.K.Keeper.answers c.round.new.keeper) (g.K.Keeper.faults c.round.new.keeper)
      (g.L.Lots.drawn c.handle.new.lots) (g.L.Lots.faults c.handle.new.lots))
      c.args.heard.now c.args.heard.event h refl refl c.answers_join.ensures
      c.in_ok-tick_all.ensures.clock c.in_ok-round.ensures.clock
      (λ f x on_time. c.in_ok-flush_all.ensures s settled before f x refl on_time)
      (λ f x. c.in_ok-tick_all.ensures.ticked s settled before f x refl)
      (λ f x. c.in_ok-round.ensures.rounded s settled before f x)
      (λ f x. c.in_ok-handle.ensures s before f x)
      (λ f x. c.expire.ensures.expired s (lane_of (lost_in c.args.heard.event)) before f x refl)
      (λ f x. c.expire.ensures.over s (lane_of (lost_in c.args.heard.event)) before f x)
      (c.hear.ensures s settled before h stands refl may)
      rested
      (can_handle {H = g.row.H.Denot} {Job = g.row.H-Job.Denot} c.parts_of_turns.ensures hub s before c.args.self.now c.args.heard.now c.args.heard.event h stands may.1);
}
