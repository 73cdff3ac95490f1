use Rattle.ha_audit.specs.AloneSteps.{FindsNone}
use Rattle.ha_audit.proofs.AloneTaking.{none_at}
use Rattle.ha_audit.proofs.alone.auditor.AuditAlone.next.Goals as goal

pub returns-clause-none : goal.returns-clause-none
returns-clause-none c = none_at (FindsNone c.args.self.now) c.args.link c.next_handshake.result c.next_handshake.ensures.none
