use Rattle.hd_trace.proofs.Attaching.{by_numbers}
use Rattle.hd_trace.proofs.by_numbers.attaches_by_numbers.Goals as goal

pub returns : goal.returns
returns c = by_numbers c.alone_agrees.ensures c.attaches_alone_by_numbers.ensures
