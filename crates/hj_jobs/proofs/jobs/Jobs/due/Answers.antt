use Rattle.std.proofs.Common.{true, false, sym, ◌∙◌, ap}
use Rattle.std.specs.Prelude.{not}
use Rattle.std.proofs.lemmas.Bool.{not-true, not_from_false, false_from_ne_true}
use Rattle.hj_jobs.proofs.Rounds.{none_due, some_due}
use Rattle.hj_jobs.proofs.jobs.Jobs.due.Goals as goal

pub returns : goal.returns
returns g c = λ who h s. (
  (λ some. some_due c.args.self.now.due h s.due (sym c.is_empty.ensures ∙ not-true c.is_empty.result some)),
  (λ x. not_from_false c.is_empty.result (false_from_ne_true c.is_empty.result (λ e. none_due c.args.self.now.due h s.due (sym c.is_empty.ensures ∙ e) x))),
)
