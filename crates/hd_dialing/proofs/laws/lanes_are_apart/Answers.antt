use Rattle.hd_dialing.proofs.Dialers.{lanes_are_apart}
use Rattle.hd_dialing.proofs.laws.lanes_are_apart.Goals as goal

pub returns : goal.returns
returns c = lanes_are_apart
