use Rattle.hub_machine.proofs.Found.{connections_are_numbered}
use Rattle.hub_machine.proofs.laws.connections_are_numbered.Goals as goal

pub returns : goal.returns
returns c = connections_are_numbered
