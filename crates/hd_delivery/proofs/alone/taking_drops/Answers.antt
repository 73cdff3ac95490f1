use Rattle.hd_delivery.proofs.Takes.{taking_drops}
use Rattle.hd_delivery.proofs.alone.taking_drops.Goals as goal

pub returns : goal.returns
returns c limits wire config h l got = taking_drops c.next_is_read.ensures c.unread_moves.ensures limits wire config h l got
