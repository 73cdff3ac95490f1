use Rattle.hub_machine.proofs.Found.{connections_are_found}
use Rattle.hub_machine.proofs.laws.connections_are_found.Goals as goal

pub returns : goal.returns
returns c = connections_are_found
