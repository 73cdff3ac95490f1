use Rattle.hd_trace.proofs.OneEnd.{one_verdict}
use Rattle.hd_trace.proofs.laws.one_verdict_alone.Goals as goal

pub returns : goal.returns
returns c = one_verdict
