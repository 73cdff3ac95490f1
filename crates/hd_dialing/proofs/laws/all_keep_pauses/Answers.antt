use Rattle.hd_dialing.proofs.Steps.{all_keep_pauses}
use Rattle.hd_dialing.proofs.laws.all_keep_pauses.Goals as goal

pub returns : goal.returns
returns c = all_keep_pauses
