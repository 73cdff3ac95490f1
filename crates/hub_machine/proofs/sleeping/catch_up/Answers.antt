use Rattle.std.proofs.Common.{refl}
use Rattle.hj_jobs.specs.Meaning.{meaning}
use Rattle.hub_machine.proofs.Lagging.{begun_if, catches_up, may_tick}
use Rattle.hub_machine.proofs.sleeping.catch_up.Goals as goal

pub returns-clause-stands : goal.returns-clause-stands
returns-clause-stands g c = λ t h s.
    let hub = meaning g.H.Hub.begin_of g.H.Hub.step_of in
    catches_up {H = g.row.H.Denot} {Job = g.row.H-Job.Denot} c.idle_ticks.ensures c.tables_agree.ensures hub c.args.clock c.args.idle_peer t c.args.peer.now h s
    c.tick_if.new.peer _ refl _ c.is_some.ensures
    (c.tick_if.ensures.ticked t (begun_if _ s.before) (c.begin_if.ensures.begun t s.before s.stood)
    (may_tick {H = g.row.H.Denot} {Job = g.row.H-Job.Denot} c.idle_ticks.ensures c.tables_agree.ensures hub c.args.clock c.args.idle_peer t c.args.peer.now h s
    _ _ c.is_some.ensures))
