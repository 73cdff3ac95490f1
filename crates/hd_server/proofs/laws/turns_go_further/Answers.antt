use Rattle.hd_server.proofs.Further.{turns_go_further}
use Rattle.hd_server.proofs.laws.turns_go_further.Goals as goal

pub returns : goal.returns
returns g c = turns_go_further
