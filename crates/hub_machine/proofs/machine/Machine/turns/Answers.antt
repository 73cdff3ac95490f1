use Rattle.std.proofs.Common.{arith, refl, ◌∙◌}
use Rattle.hub_machine.proofs.RoundTurned.{none_passed, one_passed, stepped_past, all_passed}
use Rattle.hub_machine.proofs.machine.Machine.turns.Goals as goal

pub loop-deed-init : goal.loop-deed-init
loop-deed-init g c = (λ w r stands in_round. none_passed _ _ _ _ _ _ _ stands in_round, refl)

pub loop-deed-preserved : goal.loop-deed-preserved
loop-deed-preserved g c = (
  λ w r stands in_round.
      one_passed _ c.loop-deed.self c.step_job.new.self c.carry.new.self _ _ _ c.args.now w r c.args.conn c.loop-deed._deed c.in-Some.job c.in-Some.deed _
      c.answers_join.ensures (c.loop-deed.invariant.0 w r stands in_round) (c.in_ok-job.ensures.stepped w) c.in-Some.is c.in_ok-carry.ensures.carried,
  c.in_ok-carry.ensures.clock ∙ c.in_ok-job.ensures.clock ∙ c.loop-deed.invariant.1,
)

pub returns-in_default-clause-turned : goal.returns-in_default-clause-turned
returns-in_default-clause-turned g c = λ w r stands in_round.
    stepped_past _ c.loop-deed.self _ _ _ c.args.now w r c.args.conn c.loop-deed._deed _
    c.answers_join.ensures (c.loop-deed.invariant.0 w r stands in_round) (c.in_ok-job.ensures.stepped w) c.in_default.is

pub returns-clause-turned : goal.returns-clause-turned
returns-clause-turned g c = λ w r stands in_round.
    all_passed _ _ _ _ _ _ _ _ _ _ in_round (c.jobs-jobs.ensures r stands) (omega arith) (c.loop-deed.invariant.0 w r stands in_round)

pub returns-in_default-clause-clock : goal.returns-in_default-clause-clock
returns-in_default-clause-clock g c = c.in_ok-job.ensures.clock ∙ c.loop-deed.invariant.1

pub returns-clause-clock : goal.returns-clause-clock
returns-clause-clock g c = c.loop-deed.invariant.1
