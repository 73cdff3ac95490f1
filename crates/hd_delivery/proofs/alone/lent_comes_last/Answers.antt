use Rattle.hd_delivery.proofs.LentBytes.{comes_last}
use Rattle.hd_delivery.proofs.alone.lent_comes_last.Goals as goal

pub returns : goal.returns
returns c = comes_last
