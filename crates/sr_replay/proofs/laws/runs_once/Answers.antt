use Rattle.sr_replay.proofs.Once.{runs_once}
use Rattle.sr_replay.proofs.laws.runs_once.Goals as goal

pub returns : goal.returns
returns c limits wire t actions r q = runs_once limits wire t actions r q
