use Rattle.sr_peers.proofs.Joining.{worlds_grow}
use Rattle.sr_peers.proofs.laws.worlds_grow.Goals as goal

pub returns : goal.returns
returns c p w side ds i = worlds_grow p w side i ds
