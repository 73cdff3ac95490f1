use Rattle.std.proofs.Common.{arith}
use Rattle.hm_json.proofs.ShortFrames.{says_ack_first}
use Rattle.hm_json.proofs.short_frames.ack.Goals as goal

pub returns : goal.returns
returns c = (says_ack_first c.last_pair_counts.ensures c.args.frame.now c.in_ok-upto.upto c.in_ok-upto.ensures.0 c.in_ok-upto.ensures.1, omega arith)
