use Rattle.hd_trace.proofs.Outcomes.{one_alone}
use Rattle.hd_trace.proofs.laws.verdict_alone_is_one.Goals as goal

pub returns : goal.returns
returns c = one_alone c.one_verdict_alone.ensures c.steps_tell_one_history.ensures
