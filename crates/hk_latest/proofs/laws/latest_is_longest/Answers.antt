use Rattle.hk_latest.proofs.Ends.{latest-is, latest-only}
use Rattle.hk_latest.proofs.laws.latest_is_longest.Goals as goal

pub returns : goal.returns
returns c = record { is_latest = latest-is; only = latest-only }
