use Rattle.hd_server.proofs.PartsOfTurns.{parts_of_turns}
use Rattle.hd_server.proofs.laws.parts_of_turns.Goals as goal

pub returns : goal.returns
returns c = parts_of_turns
