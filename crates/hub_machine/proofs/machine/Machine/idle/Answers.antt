use Rattle.std.proofs.Common.{arith}
use Rattle.hj_jobs.specs.Meaning.{meaning}
use Rattle.hub_machine.proofs.Idle.{idle_more, is_idle, not_idle}
use Rattle.hub_machine.proofs.machine.Machine.idle.Goals as goal

pub loop-conn-init : goal.loop-conn-init
loop-conn-init g c = λ k before. absurd (omega (arith, before))

pub loop-conn-preserved : goal.loop-conn-preserved
loop-conn-preserved g c =
    idle_more {H = g.row.H.Denot} {Job = g.row.H-Job.Denot} (meaning g.H.Hub.begin_of g.H.Hub.step_of) c.turns_are_tested.ensures c.args.self.now
    c.numbers-conn-items.result.now c.numbers-conn-items.ensures c.loop-conn.conn-index c.is_due.result c.loop-conn-test.true c.loop-conn.invariant
    c.is_due.ensures.there c.if-is_due.false

pub returns-then-is_due : goal.returns-then-is_due
returns-then-is_due g c =
    not_idle {H = g.row.H.Denot} {Job = g.row.H-Job.Denot} (meaning g.H.Hub.begin_of g.H.Hub.step_of) c.turns_are_tested.ensures c.args.self.now
    c.numbers-conn-items.result.now c.numbers-conn-items.ensures c.loop-conn.conn-index c.is_due.result c.loop-conn-test.true
    c.is_due.ensures.there c.if-is_due.true

pub returns : goal.returns
returns g c =
    is_idle {H = g.row.H.Denot} {Job = g.row.H-Job.Denot} (meaning g.H.Hub.begin_of g.H.Hub.step_of) c.turns_are_tested.ensures c.args.self.now
    c.numbers-conn-items.result.now c.numbers-conn-items.ensures c.loop-conn.conn-index (omega (arith, c.loop-conn-test.false)) c.loop-conn.invariant
