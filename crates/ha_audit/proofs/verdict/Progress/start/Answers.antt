use Rattle.ha_audit.proofs.AuditPassing.{stands_first}
use Rattle.ha_audit.proofs.verdict.Progress.start.Goals as goal

pub returns : goal.returns
returns c = λ is. stands_first c.args.head c.in_ok-start.field-0 is c.in_ok-start.ensures.head c.in_ok-start.ensures.kept
