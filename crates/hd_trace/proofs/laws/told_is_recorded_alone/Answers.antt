use Rattle.hd_trace.proofs.Recorded.{is_recorded_alone}
use Rattle.hd_trace.proofs.laws.told_is_recorded_alone.Goals as goal

pub returns : goal.returns
returns c = is_recorded_alone
