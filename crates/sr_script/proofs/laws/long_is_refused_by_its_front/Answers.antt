use Rattle.sr_script.proofs.Parsing.{refused_front}
use Rattle.sr_script.proofs.laws.long_is_refused_by_its_front.Goals as goal

pub returns : goal.returns
returns c = refused_front
