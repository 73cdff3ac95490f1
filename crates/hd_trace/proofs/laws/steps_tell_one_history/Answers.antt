use Rattle.hd_trace.proofs.OneEnd.{one_history}
use Rattle.hd_trace.proofs.laws.steps_tell_one_history.Goals as goal

pub returns : goal.returns
returns c = one_history
