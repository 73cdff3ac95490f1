use Rattle.ha_audit.proofs.Fronts.{same_trace}
use Rattle.ha_audit.proofs.laws.traces_are_told_once.Goals as goal

pub returns : goal.returns
returns c = λ only text head other lines others is is'. same_trace c.lines_are_lines.ensures only text head other lines others is is'
