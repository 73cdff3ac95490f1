use Rattle.hd_delivery.proofs.Unread.{bounded}
use Rattle.hd_delivery.proofs.laws.unread_is_bounded.Goals as goal

pub returns : goal.returns
returns c limits wire config h l there = bounded limits wire config there.sound h there.is_history l there.here
