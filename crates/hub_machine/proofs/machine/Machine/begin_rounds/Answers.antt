use Rattle.std.proofs.Common.{◌∷◌, arith, sym, ap, subst, ◌∙◌}
use Rattle.hd_server.specs.Machine.{Rounds}
use Rattle.hj_jobs.specs.Meaning.{meaning}
use Rattle.hub_machine.specs.Machines.{StandsMachine}
use Rattle.hub_machine.proofs.Unmoved.{begun_at, begun_everywhere, begun_nowhere, rounds_stand}
use Rattle.hub_machine.proofs.machine.Machine.begin_rounds.Goals as goal

pub loop-conn-init : goal.loop-conn-init
loop-conn-init g c = begun_nowhere (meaning g.H.Hub.begin_of g.H.Hub.step_of) c.args.self.now c.args.conns.now

pub loop-conn-preserved : goal.loop-conn-preserved
loop-conn-preserved g c =
    begun_at (meaning g.H.Hub.begin_of g.H.Hub.step_of) c.args.self.now c.loop-conn.self c.begin_round_at.new.self c.args.conns.now
    c.loop-conn.conn-index c.loop-conn-test.true c.loop-conn.invariant c.begin_round_at.ensures.begun c.begin_round_at.ensures.others
    c.begin_round_at.ensures.registry c.begin_round_at.ensures.idle_set c.begin_round_at.ensures.count

pub returns-clause-begun : goal.returns-clause-begun
returns-clause-begun g c = λ w now numbers was.
    let hub = meaning g.H.Hub.begin_of g.H.Hub.step_of in
    subst (λ s. StandsMachine {H = g.row.H.Denot} hub (record c.loop-conn.self { idle_set = s }) (Rounds now ∷ w)) (sym c.begin_round.ensures)
    (rounds_stand hub c.args.self.now c.loop-conn.self w now was
    (begun_everywhere hub c.args.self.now c.loop-conn.self c.args.conns.now c.loop-conn.conn-index (omega (arith, c.loop-conn-test.false))
    c.loop-conn.invariant numbers))

pub returns-clause-moment : goal.returns-clause-moment
returns-clause-moment g c =
    ap (λ s. s.clock.moment) c.begin_round.ensures ∙ ap (λ s. s.clock.moment) c.loop-conn.invariant.idle_set
