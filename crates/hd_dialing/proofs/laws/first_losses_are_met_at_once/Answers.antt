use Rattle.hd_dialing.proofs.Counts.{first_losses_are_met_at_once}
use Rattle.hd_dialing.proofs.laws.first_losses_are_met_at_once.Goals as goal

pub returns : goal.returns
returns c = first_losses_are_met_at_once
