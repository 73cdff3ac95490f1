use Rattle.std.proofs.Common.{false, sym, ap, subst}
use Rattle.hd_server.specs.Doings.{said}
use Rattle.hj_jobs.specs.Meaning.{meaning}
use Rattle.hub_server.specs.Lanes.{settled}
use Rattle.hub_server.specs.Servers.{Standing}
use Rattle.hub_server.specs.Steps.{outside}
use Rattle.hub_server.proofs.StepWent.{has_turn}
use Rattle.hub_server.proofs.server.Server.step.Goals as goal

pub returns-in-Ok-clause-turn : goal.returns-in-Ok-clause-turn
returns-in-Ok-clause-turn g c = λ s h stands may.
    let hub = meaning g.H.Hub.begin_of g.H.Hub.step_of in
    let old = c.args.self.now in
    let new = c.turn.new.self in
    let started = subst (λ ws. Standing {H = g.row.H.Denot} {Job = g.row.H-Job.Denot} hub s settled (said h) (record old { words = ws }) h)
    (sym c.new.ensures) stands.stands in
    let turned = c.in-Ok.ensures.turn s (said h) h started stands.rested may in
    has_turn {H = g.row.H.Denot} {Job = g.row.H-Job.Denot} hub s new (record new { is_ended = false; words = c.take.new.self })
    (outside (g.K.Keeper.holds c.args.keeper.now) (g.K.Keeper.answers c.args.keeper.now) (g.K.Keeper.faults c.args.keeper.now)
    (g.L.Lots.drawn c.args.lots.now) (g.L.Lots.faults c.args.lots.now))
    (outside (g.K.Keeper.holds c.turn.new.keeper) (g.K.Keeper.answers c.turn.new.keeper) (g.K.Keeper.faults c.turn.new.keeper)
    (g.L.Lots.drawn c.turn.new.lots) (g.L.Lots.faults c.turn.new.lots))
    c.args.heard h c.take.result.items turned c.take.ensures.words (ap (λ ws. record new { is_ended = false; words = ws }) c.take.ensures.none)
