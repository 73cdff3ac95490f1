use Rattle.hd_trace.proofs.Recorded.{tell}
use Rattle.hd_trace.proofs.laws.records_tell.Goals as goal

pub returns : goal.returns
returns c = tell
