use Rattle.hd_trace.proofs.Worlds.{is_world}
use Rattle.hd_trace.proofs.laws.told_is_world.Goals as goal

pub returns : goal.returns
returns c = is_world
