use Rattle.hd_server.proofs.Bodies.{bodies_are_bounded}
use Rattle.hd_server.proofs.laws.bodies_are_bounded.Goals as goal

pub returns : goal.returns
returns c = bodies_are_bounded
