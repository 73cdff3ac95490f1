use Rattle.hd_server.proofs.Tests.{turns_are_tested}
use Rattle.hd_server.proofs.laws.turns_are_tested.Goals as goal

pub returns : goal.returns
returns c = turns_are_tested
