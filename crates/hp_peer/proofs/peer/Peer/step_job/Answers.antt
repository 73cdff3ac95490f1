use Rattle.std.proofs.Common.{◌++◌, ◌∙◌, arith, rules}
use Rattle.hd_calls.specs.Tables.{job_happenings}
use Rattle.hp_peer.proofs.JobLoop.{had_deed, had_each, had_more, had_none, had_rest, had_some}
use Rattle.hp_peer.proofs.peer.Peer.step_job.Goals as goal

pub loop-turn-init : goal.loop-turn-init
loop-turn-init g c = (search rules, λ t h s. had_none {H = g.row.H.Denot} _ t h c.args.now c.args.self.now s)

pub returns-in-Ok-Nobody-clause-ok : goal.returns-in-Ok-Nobody-clause-ok
returns-in-Ok-Nobody-clause-ok g c = λ t h s.
    let x = c.loop-turn.invariant.1 t h s in
    had_rest {H = g.row.H.Denot} _ t h c.args.now c.loop-turn._turn c.loop-turn.self x c.turn.new.self
    (rw c.in-Ok-Nobody.field-0-is at (c.in-Ok-Nobody.ensures.ok t (x.turns ++ h) x.holds.0))

pub returns-in-Ok-Nobody-clause-goes_on : goal.returns-in-Ok-Nobody-clause-goes_on
returns-in-Ok-Nobody-clause-goes_on g c = c.in-Ok-Nobody.ensures.turns ∙ c.loop-turn.invariant.0

pub returns-in-Ok-HandedUp-clause-ok : goal.returns-in-Ok-HandedUp-clause-ok
returns-in-Ok-HandedUp-clause-ok g c = λ t h s.
    let x = c.loop-turn.invariant.1 t h s in
    had_deed {H = g.row.H.Denot} _ t h c.args.now c.loop-turn._turn c.loop-turn.self x c.turn.new.self c.in-Ok-HandedUp.job c.in-Ok-HandedUp.deed
    (rw c.in-Ok-HandedUp.field-0-is at (c.in-Ok-HandedUp.ensures.ok t (x.turns ++ h) x.holds.0))

pub returns-in-Ok-HandedUp-clause-goes_on : goal.returns-in-Ok-HandedUp-clause-goes_on
returns-in-Ok-HandedUp-clause-goes_on g c = c.in-Ok-HandedUp.ensures.turns ∙ c.loop-turn.invariant.0

pub returns-in-Err-clause-failed : goal.returns-in-Err-clause-failed
returns-in-Err-clause-failed g c = λ t h s.
    let x = c.loop-turn.invariant.1 t h s in
    had_some {H = g.row.H.Denot} _ t h c.args.now c.loop-turn._turn c.loop-turn.self x c.turn.new.self (c.in-Err.ensures.unchanged t (x.turns ++ h) x.holds.0)

pub loop-turn-preserved : goal.loop-turn-preserved
loop-turn-preserved g c = (
  c.in-Ok-Had.ensures.turns ∙ c.loop-turn.invariant.0,
  λ t h s.
      let x = c.loop-turn.invariant.1 t h s in
      had_more {H = g.row.H.Denot} _ t h c.args.now c.loop-turn._turn c.loop-turn.self x c.turn.new.self
      (rw c.in-Ok-Had.field-0-is at (c.in-Ok-Had.ensures.ok t (x.turns ++ h) x.holds.0)),
)

pub returns-clause-ok : goal.returns-clause-ok
returns-clause-ok g c = λ t h s.
    had_each {H = g.row.H.Denot} _ t h c.args.now c.loop-turn._turn c.loop-turn.self (c.loop-turn.invariant.1 t h s) c.accepted-jobs.result (c.tables_agree.ensures t h).1
    (c.accepted-jobs.ensures t.who (job_happenings t h) s.jobs) (omega arith)

pub returns-clause-goes_on : goal.returns-clause-goes_on
returns-clause-goes_on g c = c.loop-turn.invariant.0
