use Rattle.hd_server.proofs.Once.{moments_come_once}
use Rattle.hd_server.proofs.laws.moments_come_once.Goals as goal

pub returns : goal.returns
returns c = moments_come_once
