use Rattle.std.proofs.Common.{sym, ap, subst, ◌∙◌}
use Rattle.hj_jobs.specs.Meaning.{meaning}
use Rattle.hub_machine.specs.Rounds.{HasStepped}
use Rattle.hub_machine.proofs.Ends.{awake_now, closes_if}
use Rattle.hub_machine.proofs.Turns.{steps_none, steps_some}
use Rattle.hub_machine.proofs.machine.Machine.step_job.Goals as goal

pub returns-in_default-clause-stepped : goal.returns-in_default-clause-stepped
returns-in_default-clause-stepped g c w r s round =
    subst (λ ps. HasStepped {H = g.row.H.Denot} {Job = g.row.H-Job.Denot} (meaning g.H.Hub.begin_of g.H.Hub.step_of)
    (record c.ensure_awake.new.self { peers = ps }) c.args.now w r c.args.conn) (sym c.get_mut.follows.holds-at-none)
    (steps_none {H = g.row.H.Denot} {Job = g.row.H-Job.Denot} (meaning g.H.Hub.begin_of g.H.Hub.step_of) c.turns_are_tested.ensures
    c.ensure_awake.new.self c.args.now c.args.conn w r (c.ensure_awake.ensures.stands r s) round c.in_default.ensures.value)

pub returns-clause-stepped : goal.returns-clause-stepped
returns-clause-stepped g c w r s round =
    steps_some {H = g.row.H.Denot} {Job = g.row.H-Job.Denot} (meaning g.H.Hub.begin_of g.H.Hub.step_of) c.turns_are_tested.ensures
    c.ensure_awake.new.self c.args.now c.args.conn w r (c.ensure_awake.ensures.stands r s) round c.in-Some.peer.now c.step_job.new.self
    (c.get_mut.follows.lender c.step_job.new.self) c.close_out_if.new.self c.in_ok-found.found c.in-Some.ensures.value
    (awake_now {H = g.row.H.Denot} {Job = g.row.H-Job.Denot} c.ensure_awake.new.self c.args.conn c.in-Some.peer.now
    (c.ensure_awake.ensures.awake s.index) c.in-Some.ensures.value)
    (c.get_mut.follows.holds c.step_job.new.self)
    (closes_if {H = g.row.H.Denot} {Job = g.row.H-Job.Denot} _ c.ensure_awake.new.self c.args.conn c.in-Some.peer.now c.step_job.new.self
    c.in-Some.ensures.value _ (c.get_mut.follows.holds c.step_job.new.self) c.close_out_if.new.self c.is_over-over.result c.close_out_if.ensures
    c.is_over-over.ensures) c.in_ok-found.ensures.ok

pub returns-clause-clock : goal.returns-clause-clock
returns-clause-clock g c =
    ap (λ s. s.clock)
    (closes_if {H = g.row.H.Denot} {Job = g.row.H-Job.Denot} _ c.ensure_awake.new.self c.args.conn c.in-Some.peer.now c.step_job.new.self
    c.in-Some.ensures.value _ (c.get_mut.follows.holds c.step_job.new.self) c.close_out_if.new.self c.is_over-over.result c.close_out_if.ensures
    c.is_over-over.ensures).idle_set
    ∙ c.ensure_awake.ensures.keeps.clock
