use Rattle.hd_server.proofs.Few.{few_live}
use Rattle.hd_server.proofs.laws.few_live.Goals as goal

pub returns : goal.returns
returns c = few_live
