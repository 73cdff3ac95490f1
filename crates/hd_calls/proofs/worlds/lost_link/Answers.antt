use Rattle.hd_calls.proofs.Examples.{lost_link_is_world}
use Rattle.hd_calls.proofs.worlds.lost_link.Goals as goal

pub returns-clause-is_world : goal.returns-clause-is_world
returns-clause-is_world c = lost_link_is_world
