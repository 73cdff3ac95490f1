use Rattle.hd_calls.proofs.Examples.{closed_with_calls_is_world}
use Rattle.hd_calls.proofs.worlds.closed_with_calls.Goals as goal

pub returns-clause-is_world : goal.returns-clause-is_world
returns-clause-is_world c = closed_with_calls_is_world
