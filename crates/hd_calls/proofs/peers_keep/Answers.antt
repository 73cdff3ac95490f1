use Rattle.hd_calls.proofs.Ends.{open_reads, speaks}
use Rattle.hd_calls.proofs.Ledgers.{keeps_ledgers, ends_after}
use Rattle.hd_calls.proofs.peers_keep.Goals as goal

pub returns : goal.returns
returns g c hub t h p = (
  keeps_ledgers hub t h p.follows (speaks hub t c.facts_hold.ensures h p.follows p.is_history),
  ends_after hub t h p.follows (open_reads t h p.is_history),
)
