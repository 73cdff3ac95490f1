use Rattle.hd_trace.proofs.Taking.{by_lines}
use Rattle.hd_trace.proofs.by_numbers.takes_by_lines.Goals as goal

pub returns : goal.returns
returns c = by_lines c.fed_is_whole.ensures c.takes_are_marked.ensures
