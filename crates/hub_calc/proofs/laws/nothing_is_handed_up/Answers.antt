use Rattle.hub_calc.proofs.Asking.{calculator_hands_up_nothing, client_hands_up_nothing}
use Rattle.hub_calc.proofs.laws.nothing_is_handed_up.Goals as goal

pub returns : goal.returns
returns c = record { calculator = calculator_hands_up_nothing; client = client_hands_up_nothing }
