use Rattle.hd_trace.proofs.Worlds.{one_world}
use Rattle.hd_trace.proofs.laws.lines_tell_one_world.Goals as goal

pub returns : goal.returns
returns c = one_world
