use Rattle.sr_lines.proofs.Told.{refusals}
use Rattle.sr_lines.proofs.laws.refusals_are_told.Goals as goal

pub returns : goal.returns
returns c = refusals
