use Rattle.hd_trace.proofs.Growing.{follows}
use Rattle.hd_trace.proofs.laws.marks_follow.Goals as goal

pub returns : goal.returns
returns c = follows c.links_grow.ensures c.frames_count.ensures c.unused_is_untouched.ensures
