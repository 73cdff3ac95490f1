use Rattle.hd_trace.proofs.Recorded.{is_recorded}
use Rattle.hd_trace.proofs.laws.told_is_recorded.Goals as goal

pub returns : goal.returns
returns c = is_recorded
