use Rattle.sr_script.proofs.WithoutPeers.{front_refused}
use Rattle.sr_script.proofs.laws.long_is_refused_by_its_front_without_peers.Goals as goal

pub returns : goal.returns
returns c = front_refused
