use Rattle.std.proofs.Common.{arith}
use Rattle.hm_json.proofs.ShortFrames.{says_sequence_first}
use Rattle.hm_json.proofs.short_frames.sequence.Goals as goal

pub returns : goal.returns
returns c = (says_sequence_first c.last_pair_counts.ensures c.args.frame.now c.in_ok-first.first c.in_ok-first.ensures.0 c.in_ok-first.ensures.1, omega arith)
