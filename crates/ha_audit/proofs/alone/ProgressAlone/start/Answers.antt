use Rattle.ha_audit.proofs.AloneVerdicts.{stands_first}
use Rattle.ha_audit.proofs.alone.ProgressAlone.start.Goals as goal

pub returns : goal.returns
returns c = λ is_head. stands_first c.args.head c.args.side _ is_head c.in_ok-start.ensures.begun.1 c.in_ok-start.ensures.kept
