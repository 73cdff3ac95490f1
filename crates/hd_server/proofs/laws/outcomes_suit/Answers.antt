use Rattle.hd_server.proofs.Rows.{outcomes_suit}
use Rattle.hd_server.proofs.laws.outcomes_suit.Goals as goal

pub returns : goal.returns
returns c = outcomes_suit
