use Rattle.hd_dialing.proofs.Telling.{moves_add}
use Rattle.hd_dialing.proofs.laws.moves_add.Goals as goal

pub returns : goal.returns
returns c = moves_add
