use Rattle.hd_dialing.proofs.Losses.{losses_are_met}
use Rattle.hd_dialing.proofs.laws.losses_are_met.Goals as goal

pub returns : goal.returns
returns c = losses_are_met
