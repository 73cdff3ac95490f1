use Rattle.sr_serve.proofs.Wired.{wires_are_served}
use Rattle.sr_serve.proofs.laws.wires_are_served.Goals as goal

pub returns : goal.returns
returns g c = wires_are_served _ g.W.Wires.trace c.bytes_are_served.ensures
