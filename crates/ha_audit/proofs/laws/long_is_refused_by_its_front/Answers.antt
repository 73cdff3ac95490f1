use Rattle.ha_audit.proofs.Fronts.{long_front}
use Rattle.ha_audit.proofs.laws.long_is_refused_by_its_front.Goals as goal

pub returns : goal.returns
returns c = λ only front more number long is. long_front only front more number long is
