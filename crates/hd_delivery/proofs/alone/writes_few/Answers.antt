use Rattle.hd_delivery.proofs.Writes.{writes_few}
use Rattle.hd_delivery.proofs.alone.writes_few.Goals as goal

pub returns : goal.returns
returns c limits wire config h ss = writes_few c.facts_hold.ensures c.frames_count.ensures c.links_grow.ensures limits wire config h ss
