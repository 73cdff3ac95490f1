use Rattle.hw_net.proofs.DialerSockets.{dialed-sockets-are-carried}
use Rattle.hw_net.proofs.laws.dialed_sockets_are_carried.Goals as goal

pub returns : goal.returns
returns c = dialed-sockets-are-carried
