use Rattle.hd_trace.proofs.Outcomes.{one}
use Rattle.hd_trace.proofs.laws.verdict_is_one.Goals as goal

pub returns : goal.returns
returns c = one c.one_verdict.ensures c.lines_tell_one_world.ensures
