use Rattle.hd_trace.proofs.Beside.{agrees}
use Rattle.hd_trace.proofs.laws.alone_agrees.Goals as goal

pub returns : goal.returns
returns c = agrees
