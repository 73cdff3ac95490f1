use Rattle.hd_calls.proofs.Faithful.{three_calls_is_faithful}
use Rattle.hd_calls.proofs.Examples.{three_calls_is_world}
use Rattle.hd_calls.proofs.worlds.three_calls.Goals as goal

pub returns-clause-is_world : goal.returns-clause-is_world
returns-clause-is_world c = three_calls_is_world

pub returns-clause-faithful : goal.returns-clause-faithful
returns-clause-faithful c = three_calls_is_faithful
