use Rattle.hd_delivery.proofs.Unread.{grows}
use Rattle.hd_delivery.proofs.laws.unread_grows.Goals as goal

pub returns : goal.returns
returns c limits wire config h l piece there = grows limits wire config h l there piece
