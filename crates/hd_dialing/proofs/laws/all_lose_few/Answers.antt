use Rattle.hd_dialing.proofs.Counts.{all_lose_few}
use Rattle.hd_dialing.proofs.laws.all_lose_few.Goals as goal

pub returns : goal.returns
returns c = all_lose_few
