use Rattle.hd_trace.proofs.Recorded.{tell_alone}
use Rattle.hd_trace.proofs.laws.records_tell_alone.Goals as goal

pub returns : goal.returns
returns c = tell_alone
