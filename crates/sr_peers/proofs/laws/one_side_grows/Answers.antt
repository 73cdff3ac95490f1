use Rattle.sr_peers.proofs.Joining.{one_side}
use Rattle.sr_peers.proofs.laws.one_side_grows.Goals as goal

pub returns : goal.returns
returns c w side ds = one_side w side ds
