use Rattle.hd_delivery.proofs.Unread.{next_frame_is}
use Rattle.hd_delivery.proofs.laws.next_is_read.Goals as goal

pub returns : goal.returns
returns c = next_frame_is
