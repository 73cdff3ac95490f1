use Rattle.sr_lines.proofs.Told.{faults}
use Rattle.sr_lines.proofs.laws.faults_are_told.Goals as goal

pub returns : goal.returns
returns c = faults
