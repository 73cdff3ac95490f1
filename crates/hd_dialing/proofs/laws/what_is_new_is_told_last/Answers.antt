use Rattle.hd_dialing.proofs.Telling.{what_is_new_is_told_last}
use Rattle.hd_dialing.proofs.laws.what_is_new_is_told_last.Goals as goal

pub returns : goal.returns
returns c = what_is_new_is_told_last
