use Rattle.std.proofs.Common.{subst}
use Rattle.std.proofs.lemmas.List.{take_all}
use Rattle.hj_jobs.specs.Meaning.{meaning}
use Rattle.hub_server.proofs.WakePollers.{HaveWoken, all_woken, none_woken, one_woken}
use Rattle.hub_server.proofs.server.Server.wake_pollers.Goals as goal

pub loop-waiting-init : goal.loop-waiting-init
loop-waiting-init g c = none_woken {H = g.row.H.Denot} {Job = g.row.H-Job.Denot} (meaning g.H.Hub.begin_of g.H.Hub.step_of) c.args.self.now

pub loop-waiting-preserved : goal.loop-waiting-preserved
loop-waiting-preserved g c =
    one_woken {H = g.row.H.Denot} {Job = g.row.H-Job.Denot} (meaning g.H.Hub.begin_of g.H.Hub.step_of) c.args.self.now
    (record c.args.self.now { machine = c.loop-waiting.self.1.1.1.0 }) c.wake.new.self _ c.held_long-waiting-items.result.now
    c.loop-waiting.waiting-index c.loop-waiting-test.true c.loop-waiting.invariant c.wake.ensures.stands c.wake.ensures.awake c.wake.ensures.others
    c.wake.ensures.clock

pub returns-clause-stands : goal.returns-clause-stands
returns-clause-stands g c = c.loop-waiting.invariant.stands

pub returns-clause-awake : goal.returns-clause-awake
returns-clause-awake g c =
    let hub = meaning g.H.Hub.begin_of g.H.Hub.step_of in
    let v = record c.args.self.now { machine = c.loop-waiting.self.1.1.1.0 } in
    all_woken {H = g.row.H.Denot} {Job = g.row.H-Job.Denot} hub c.args.self.now v c.held_long-waiting-items.result.now
    c.held_long-waiting-items.ensures.held
    (subst (λ ws. HaveWoken {H = g.row.H.Denot} hub c.args.self.now v ws)
    (take_all c.loop-waiting.waiting-index c.held_long-waiting-items.result.now c.loop-waiting-test.false) c.loop-waiting.invariant)

pub returns-clause-clock : goal.returns-clause-clock
returns-clause-clock g c = c.loop-waiting.invariant.clock
