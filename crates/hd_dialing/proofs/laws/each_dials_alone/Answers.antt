use Rattle.hd_dialing.proofs.Dialers.{each_dials_alone}
use Rattle.hd_dialing.proofs.laws.each_dials_alone.Goals as goal

pub returns : goal.returns
returns c = each_dials_alone
