use Rattle.sr_script.proofs.Texts.{first_line}
use Rattle.sr_script.proofs.laws.lines_are_cut.Goals as goal

pub returns : goal.returns
returns c = first_line
