use Rattle.hd_server.proofs.Allowed.{allowed_are_served}
use Rattle.hd_server.proofs.laws.allowed_are_served.Goals as goal

pub returns : goal.returns
returns c = allowed_are_served
