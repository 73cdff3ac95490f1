use Rattle.hd_trace.proofs.OneEnd.{is_history}
use Rattle.hd_trace.proofs.laws.told_is_history.Goals as goal

pub returns : goal.returns
returns c = is_history
