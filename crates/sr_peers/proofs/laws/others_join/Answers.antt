use Rattle.sr_peers.proofs.Joining.{others_join}
use Rattle.sr_peers.proofs.laws.others_join.Goals as goal

pub returns : goal.returns
returns c p w side ds = others_join p w side ds
