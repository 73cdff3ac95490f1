use Rattle.hub_calc.proofs.Asking.{calculator_asks, client_asks_nothing}
use Rattle.hub_calc.proofs.laws.only_ask_asks.Goals as goal

pub returns : goal.returns
returns c = record { calculator = calculator_asks; client = client_asks_nothing }
