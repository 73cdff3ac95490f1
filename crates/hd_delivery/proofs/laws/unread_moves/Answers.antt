use Rattle.hd_delivery.proofs.Unread.{took, failed}
use Rattle.hd_delivery.proofs.laws.unread_moves.Goals as goal

pub returns : goal.returns
returns c limits wire config h l there = (took limits wire config h l there, failed limits wire config h l there)
