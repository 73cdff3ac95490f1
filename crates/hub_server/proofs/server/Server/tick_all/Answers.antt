use Rattle.std.proofs.Common.{subst, sym, ap, ◌∙◌}
use Rattle.std.proofs.lemmas.List.{drop_all}
use Rattle.hj_jobs.specs.Meaning.{meaning}
use Rattle.hub_machine.specs.Rounds.{AreNumbers}
use Rattle.hub_server.proofs.TickAll.{ticks_begin, ticks_on, ticks_over}
use Rattle.hub_server.proofs.server.Server.tick_all.Goals as goal

pub loop-conn-init : goal.loop-conn-init
loop-conn-init g c = (
  ticks_begin {H = g.row.H.Denot} {Job = g.row.H-Job.Denot} (meaning g.H.Hub.begin_of g.H.Hub.step_of) c.args.self.now
      c.deref-conn-items.result.now c.connections_are_numbered.ensures c.parts_of_turns.ensures c.wake_expired.new.self c.advance_clock.new.self
      c.in_ok-wake_expired.ensures.stands c.in_ok-wake_expired.ensures.rung
      (λ w s. subst (λ cs. AreNumbers {H = g.row.H.Denot} c.wake_expired.new.self cs) (sym c.deref-conn-items.ensures.value) (c.in_ok-conns.ensures w s))
      c.advance_clock.ensures.passed,
  c.advance_clock.ensures.moment,
)

pub loop-conn-preserved : goal.loop-conn-preserved
loop-conn-preserved g c = (
  ticks_on {H = g.row.H.Denot} (meaning g.H.Hub.begin_of g.H.Hub.step_of) c.args.self.now c.deref-conn-items.result.now
      c.parts_of_turns.ensures c.loop-conn.self c.tick.new.self c.loop-conn.conn-index c.loop-conn-test.true c.in_ok-tick.ensures.ticked c.loop-conn.invariant.0,
  ap (λ k. k.moment) c.in_ok-tick.ensures.clock ∙ c.loop-conn.invariant.1,
)

pub returns-clause-ticked : goal.returns-clause-ticked
returns-clause-ticked g c =
    ticks_over {H = g.row.H.Denot} (meaning g.H.Hub.begin_of g.H.Hub.step_of) c.args.self.now c.deref-conn-items.result.now
    c.loop-conn.self c.loop-conn.conn-index (drop_all c.loop-conn.conn-index c.deref-conn-items.result.now c.loop-conn-test.false)
    c.loop-conn.invariant.0

pub returns-clause-clock : goal.returns-clause-clock
returns-clause-clock g c = c.loop-conn.invariant.1
