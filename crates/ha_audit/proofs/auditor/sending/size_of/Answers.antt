use Rattle.ha_audit.proofs.AuditAnswers.{as_read}
use Rattle.ha_audit.proofs.auditor.sending.size_of.Goals as goal

pub returns-clause-as_read : goal.returns-clause-as_read
returns-clause-as_read c = as_read c.one_meaning.ensures c.args.codec c.args.message.now c.requires c.in_ok-write_message.ensures.again
