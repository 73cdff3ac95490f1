use Rattle.hd_client.proofs.Endings.{calls_end_once}
use Rattle.hd_client.proofs.laws.calls_end_once.Goals as goal

pub returns : goal.returns
returns g c = calls_end_once c.peers_keep.ensures
