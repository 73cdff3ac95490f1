use Rattle.hd_server.proofs.InOrder.{connections_in_order}
use Rattle.hd_server.proofs.laws.connections_in_order.Goals as goal

pub returns : goal.returns
returns c = connections_in_order
