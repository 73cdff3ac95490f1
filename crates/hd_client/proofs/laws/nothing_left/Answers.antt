use Rattle.hd_client.proofs.Left.{nothing_left}
use Rattle.hd_client.proofs.laws.nothing_left.Goals as goal

pub returns : goal.returns
returns g c = nothing_left
