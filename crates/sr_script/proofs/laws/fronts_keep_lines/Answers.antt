use Rattle.sr_script.proofs.Texts.{same_lines, lines_grow}
use Rattle.sr_script.proofs.laws.fronts_keep_lines.Goals as goal

pub returns : goal.returns
returns c = record { same = same_lines; no_fewer = lines_grow }
