use Rattle.hd_delivery.proofs.Takes.{takes_few}
use Rattle.hd_delivery.proofs.alone.takes_few.Goals as goal

pub returns : goal.returns
returns c limits wire config h ss sound is = takes_few c.next_is_read.ensures c.unread_moves.ensures limits wire config h sound is c.unread_is_bounded.ensures ss
