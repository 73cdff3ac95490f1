use Rattle.std.proofs.Common.{get_or, refl, sym, subst}
use Rattle.hj_jobs.specs.Meaning.{meaning}
use Rattle.hub_machine.specs.IdleSet.{AreRung}
use Rattle.hub_machine.proofs.Ringing.{none_rings, none_woken, one_woken, sleep_on}
use Rattle.hub_machine.proofs.machine.Machine.wake_expired.Goals as goal

pub loop-conn-init : goal.loop-conn-init
loop-conn-init g c =
    none_woken {H = g.row.H.Denot} {Job = g.row.H-Job.Denot} (meaning g.H.Hub.begin_of g.H.Hub.step_of) c.args.self.now c.deref-conn-items.result.now

pub loop-conn-preserved : goal.loop-conn-preserved
loop-conn-preserved g c =
    one_woken {H = g.row.H.Denot} {Job = g.row.H-Job.Denot} (meaning g.H.Hub.begin_of g.H.Hub.step_of) c.args.self.now c.loop-conn.self c.wake.new.self
    c.deref-conn-items.result.now c.loop-conn.conn-index (get_or c.deref-conn-items.result.now c.loop-conn.conn-index 0) refl c.loop-conn-test.true
    (record {
      stands = c.wake.ensures.stands;
      awake = c.wake.ensures.awake;
      others = c.wake.ensures.others;
      there = c.wake.ensures.there;
      absent = c.wake.ensures.absent;
    })
    c.loop-conn.invariant

pub returns-clause-stands : goal.returns-clause-stands
returns-clause-stands g c = c.loop-conn.invariant.stands

pub returns-clause-rung : goal.returns-clause-rung
returns-clause-rung g c w s =
    none_rings {H = g.row.H.Denot} {Job = g.row.H-Job.Denot} (meaning g.H.Hub.begin_of g.H.Hub.step_of) c.args.self.now c.loop-conn.self
    c.deref-conn-items.result.now c.loop-conn.conn-index c.args.now w c.loop-conn-test.false
    (subst (λ conns. AreRung c.args.self.now.idle_set c.args.now conns) (sym c.deref-conn-items.ensures.value) c.in_ok-conns.ensures)
    c.loop-conn.invariant s

pub returns-clause-others : goal.returns-clause-others
returns-clause-others g c index =
    sleep_on {H = g.row.H.Denot} {Job = g.row.H-Job.Denot} (meaning g.H.Hub.begin_of g.H.Hub.step_of) c.args.self.now c.loop-conn.self
    c.deref-conn-items.result.now c.loop-conn.conn-index c.args.now
    (subst (λ conns. AreRung c.args.self.now.idle_set c.args.now conns) (sym c.deref-conn-items.ensures.value) c.in_ok-conns.ensures)
    index c.loop-conn.invariant
