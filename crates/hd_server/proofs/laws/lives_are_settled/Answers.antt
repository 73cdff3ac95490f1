use Rattle.hd_server.proofs.Few.{lives_are_settled}
use Rattle.hd_server.proofs.laws.lives_are_settled.Goals as goal

pub returns : goal.returns
returns c = lives_are_settled
