use Rattle.hub_calc.proofs.Runs.{confirms, others}
use Rattle.hub_calc.proofs.laws.clients_answer.Goals as goal

pub returns : goal.returns
returns c = record { confirm = confirms c.values_are_trees.ensures; others = others }
