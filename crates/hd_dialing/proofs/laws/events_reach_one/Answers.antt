use Rattle.hd_dialing.proofs.Dialers.{events_reach_one}
use Rattle.hd_dialing.proofs.laws.events_reach_one.Goals as goal

pub returns : goal.returns
returns c = events_reach_one
