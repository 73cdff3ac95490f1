use Rattle.hd_trace.proofs.Dues.{marked}
use Rattle.hd_trace.proofs.laws.due_is_marked.Goals as goal

pub returns : goal.returns
returns c = marked
