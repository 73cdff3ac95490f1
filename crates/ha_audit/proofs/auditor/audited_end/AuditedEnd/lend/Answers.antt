use Rattle.ha_audit.proofs.AuditSaying.{lends_so}
use Rattle.ha_audit.proofs.auditor.audited_end.AuditedEnd.lend.Goals as goal

pub returns : goal.returns
returns c = λ k side codec version many numbers.
    lends_so c.args.self.now c.say.new.self c.args.side c.in-Some-due.owed k c.in-Some.link c.args.bytes.now c.in_ok-is_spelled.field-0
    c.in-Some-due.ensures side many numbers c.in-Some.is c.if-not-branch.false (c.in_ok-is_spelled.ensures k codec version) c.in_ok-say.ensures
