use Rattle.std.proofs.Common.{◌≡◌, arith, rules}
use Rattle.std.specs.Prelude.{codes}
use Rattle.hm_json.proofs.ShortFrames.{says_ping}
use Rattle.hm_json.proofs.short_frames.ping.Goals as goal

pub returns-then-is_ping : goal.returns-then-is_ping
returns-then-is_ping c =
    let is : c.args.frame.now ≡ codes "{\"type\":6}" = search rules in
    (says_ping c.last_pair_counts.ensures c.args.frame.now is, omega arith)
