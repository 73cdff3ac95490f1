use Rattle.hw_net.proofs.DialerNumbering.{asks-rise}
use Rattle.hw_net.proofs.laws.asks_rise.Goals as goal

pub returns : goal.returns
returns g c = asks-rise g.W.Wires.trace g.W.Wires.wires g.W.Wires.faults
