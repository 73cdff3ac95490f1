use Rattle.sr_peers.proofs.Keeping.{writes_lend}
use Rattle.sr_peers.proofs.laws.writes_lend.Goals as goal

pub returns : goal.returns
returns c = writes_lend c.frames_are_taken.ensures
