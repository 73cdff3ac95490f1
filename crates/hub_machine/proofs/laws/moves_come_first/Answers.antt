use Rattle.hub_machine.proofs.Doing.{moves_done}
use Rattle.hub_machine.proofs.laws.moves_come_first.Goals as goal

pub returns : goal.returns
returns c = moves_done
