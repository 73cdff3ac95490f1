use Rattle.hi_calls.proofs.Notices.{passed}
use Rattle.hi_calls.proofs.laws.notices_pass.Goals as goal

pub returns : goal.returns
returns c = passed
