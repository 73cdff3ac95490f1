use Rattle.hd_trace.proofs.Ticking.{is_enough}
use Rattle.hd_trace.proofs.laws.off_link_is_enough.Goals as goal

pub returns : goal.returns
returns c = is_enough
