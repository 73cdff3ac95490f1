use Rattle.hd_dialing.proofs.Losses.{nothing_after_the_end}
use Rattle.hd_dialing.proofs.laws.nothing_after_the_end.Goals as goal

pub returns : goal.returns
returns c = nothing_after_the_end
