use Rattle.hd_trace.proofs.Worlds.{one_verdict}
use Rattle.hd_trace.proofs.laws.one_verdict.Goals as goal

pub returns : goal.returns
returns c = one_verdict
