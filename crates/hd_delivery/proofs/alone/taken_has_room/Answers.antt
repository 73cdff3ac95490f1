use Rattle.hd_delivery.proofs.Takes.{taken_has_room}
use Rattle.hd_delivery.proofs.alone.taken_has_room.Goals as goal

pub returns : goal.returns
returns c limits wire config h l = taken_has_room c.next_is_read.ensures limits wire config h l
