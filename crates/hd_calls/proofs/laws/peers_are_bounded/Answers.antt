use Rattle.hd_calls.proofs.Limits.{bounded}
use Rattle.hd_calls.proofs.laws.peers_are_bounded.Goals as goal

pub returns : goal.returns
returns g c hub t h p = bounded hub t h p.follows
