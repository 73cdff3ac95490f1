use Rattle.hk_latest.proofs.Ends.{latest-latest}
use Rattle.hk_latest.proofs.laws.latest_of_latest.Goals as goal

pub returns : goal.returns
returns c = latest-latest
