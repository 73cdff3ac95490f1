use Rattle.hk_latest.proofs.Ends.{latest-great}
use Rattle.hk_latest.proofs.laws.none_after_too_great.Goals as goal

pub returns : goal.returns
returns c = latest-great
