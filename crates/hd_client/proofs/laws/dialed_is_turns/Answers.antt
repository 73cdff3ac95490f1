use Rattle.hd_client.proofs.Through.{dialed_is_turns}
use Rattle.hd_client.proofs.laws.dialed_is_turns.Goals as goal

pub returns : goal.returns
returns g c = dialed_is_turns
