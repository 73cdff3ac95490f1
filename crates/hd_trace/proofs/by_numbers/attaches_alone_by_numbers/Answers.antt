use Rattle.hd_trace.proofs.Attaching.{alone_by_numbers}
use Rattle.hd_trace.proofs.by_numbers.attaches_alone_by_numbers.Goals as goal

pub returns : goal.returns
returns c = alone_by_numbers
