use Rattle.std.proofs.Common.{arith}
use Rattle.hm_json.proofs.ShortFrames.{says_cancel_last}
use Rattle.hm_json.proofs.short_frames.cancellation_with_the_type_last.Goals as goal

pub returns-in-Some : goal.returns-in-Some
returns-in-Some c =
    let found = rw c.in-Some.is at c.in_ok-found.ensures in
    rw c.none.ensures (says_cancel_last c.last_pair_counts.ensures c.args.frame.now c.in-Some.id found.0 found.1 found.2, omega arith)
