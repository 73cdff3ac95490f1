use Rattle.hd_delivery.proofs.LentBytes.{unused}
use Rattle.hd_delivery.proofs.alone.unused_is_empty.Goals as goal

pub returns : goal.returns
returns c = unused c.unused_is_untouched.ensures c.fed_is_unseen.ensures
