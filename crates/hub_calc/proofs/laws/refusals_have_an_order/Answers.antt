use Rattle.hub_calc.proofs.Runs.{unknown, kind_refused, arguments_refused}
use Rattle.hub_calc.proofs.laws.refusals_have_an_order.Goals as goal

pub returns : goal.returns
returns c = record { unknown = unknown; kind = kind_refused; arguments = arguments_refused }
