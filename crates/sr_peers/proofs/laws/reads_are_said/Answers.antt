use Rattle.sr_peers.proofs.Hearing.{reads_join}
use Rattle.sr_peers.proofs.laws.reads_are_said.Goals as goal

pub returns : goal.returns
returns c p w side l now bytes ds at front there = reads_join c.fed_is_unseen.ensures c.frames_are_taken.ensures p w side l now bytes there at front ds
