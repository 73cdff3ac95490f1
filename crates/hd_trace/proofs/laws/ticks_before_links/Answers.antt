use Rattle.hd_trace.proofs.Ticking.{before_links}
use Rattle.hd_trace.proofs.laws.ticks_before_links.Goals as goal

pub returns : goal.returns
returns c = before_links
