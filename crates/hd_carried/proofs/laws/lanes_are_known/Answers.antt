use Rattle.hd_carried.proofs.Known.{lanes_are_known}
use Rattle.hd_carried.proofs.laws.lanes_are_known.Goals as goal

pub returns : goal.returns
returns c = lanes_are_known
