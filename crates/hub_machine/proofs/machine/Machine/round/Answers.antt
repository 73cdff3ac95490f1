use Rattle.std.proofs.Common.{sym, ap, subst, ◌∙◌, arith, rules}
use Rattle.hj_jobs.specs.Meaning.{meaning}
use Rattle.hub_machine.specs.Rounds.{AreNumbers}
use Rattle.hub_machine.proofs.RoundWhole.{none_gone, one_gone, all_gone, none_back}
use Rattle.hub_machine.proofs.machine.Machine.round.Goals as goal
use Rattle.hub_machine.proofs.machine.Machine.round.Goals.{in-None-1, in-Some+else-passed-conn}

pub loop-conn-init : goal.loop-conn-init
loop-conn-init g c = (
  λ w stands.
      none_gone _ _ _ _ w
      (c.begin_rounds.ensures.begun w c.args.now (subst (λ cs. AreNumbers {H = g.row.H.Denot} c.args.self.now cs) (sym c.deref.ensures.value)
      (c.in_ok-conns.ensures w stands)) stands),
  c.begin_rounds.ensures.moment,
)

pub loop-conn-preserved : goal.loop-conn-preserved
loop-conn-preserved g c = (
  λ w stands.
      one_gone {H = g.row.H.Denot} {Job = g.row.H-Job.Denot} (meaning g.H.Hub.begin_of g.H.Hub.step_of) c.turns_are_tested.ensures c.loop-conn.self _ _
      c.args.now w c.loop-conn.passed (c.loop-conn.invariant.0 w stands) c.turns.new.self _ c.in-Some.conn c.next_awake.result c.answers_join.ensures
      c.next_awake.ensures c.in-Some.is (c.in_ok-turns.ensures.turned w),
  ap (λ k. k.moment) c.in_ok-turns.ensures.clock ∙ c.loop-conn.invariant.1,
)

pub returns-clause-turned : goal.returns-clause-turned
returns-clause-turned g c = λ w stands. elim c.match-next_awake.branch [
  | in-None-1 x ↦ all_gone {H = g.row.H.Denot} {Job = g.row.H-Job.Denot} (meaning g.H.Hub.begin_of g.H.Hub.step_of) c.turns_are_tested.ensures
      c.loop-conn.self _ _ c.args.now w c.loop-conn.passed (c.loop-conn.invariant.0 w stands) c.next_awake.result c.next_awake.ensures (search rules)
  | in-Some+else-passed-conn x ↦ none_back {H = g.row.H.Denot} {Job = g.row.H-Job.Denot} (meaning g.H.Hub.begin_of g.H.Hub.step_of)
      c.turns_are_tested.ensures c.loop-conn.self _ _ c.args.now w c.loop-conn.passed (c.loop-conn.invariant.0 w stands) x.in-Some.conn
      c.next_awake.result c.next_awake.ensures x.in-Some.is (λ past. omega (arith, past, x.if-passed-conn.false))
]

pub returns-clause-moment : goal.returns-clause-moment
returns-clause-moment g c = c.loop-conn.invariant.1
