use Rattle.hub_calc.proofs.Sums.{sum, sum_stops, sum_whole}
use Rattle.hub_calc.proofs.laws.sums_add_up.Goals as goal

pub returns : goal.returns
returns c = record { sum = sum; range = sum_stops; whole = sum_whole }
