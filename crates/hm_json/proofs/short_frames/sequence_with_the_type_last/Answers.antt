use Rattle.std.proofs.Common.{arith}
use Rattle.hm_json.proofs.ShortFrames.{says_sequence_last}
use Rattle.hm_json.proofs.short_frames.sequence_with_the_type_last.Goals as goal

pub returns : goal.returns
returns c = (says_sequence_last c.last_pair_counts.ensures c.args.frame.now c.in_ok-first.first c.in_ok-first.ensures.0 c.in_ok-first.ensures.1, omega arith)
