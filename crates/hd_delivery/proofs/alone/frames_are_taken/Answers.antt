use Rattle.hd_delivery.proofs.TakenFrames.{processed}
use Rattle.hd_delivery.proofs.alone.frames_are_taken.Goals as goal

pub returns : goal.returns
returns c config k s = processed config k s
