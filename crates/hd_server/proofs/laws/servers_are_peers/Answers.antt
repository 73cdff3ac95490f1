use Rattle.hd_server.proofs.FurtherDoings.{servers_are_peers}
use Rattle.hd_server.proofs.laws.servers_are_peers.Goals as goal

pub returns : goal.returns
returns g c = servers_are_peers c.turns_go_further.ensures
