use Rattle.hw_net.proofs.Sockets.{sockets-are-carried}
use Rattle.hw_net.proofs.laws.sockets_are_carried.Goals as goal

pub returns : goal.returns
returns c = sockets-are-carried
