use Rattle.hd_delivery.proofs.Unread.{begins}
use Rattle.hd_delivery.proofs.laws.unread_begins.Goals as goal

pub returns : goal.returns
returns c = begins
