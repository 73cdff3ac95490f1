use Rattle.sr_peers.proofs.Keeping.{doings_keep}
use Rattle.sr_peers.proofs.laws.doings_keep.Goals as goal

pub returns : goal.returns
returns c = doings_keep
