use Rattle.sr_replay.proofs.Traced.{traces_once}
use Rattle.sr_replay.proofs.laws.traces_once.Goals as goal

pub returns : goal.returns
returns c p x y e f = traces_once c.has_wire.ensures p x y e f
