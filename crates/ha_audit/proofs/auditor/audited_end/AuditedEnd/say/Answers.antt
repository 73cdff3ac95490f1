use Rattle.ha_audit.proofs.AuditSaying.{says_so}
use Rattle.ha_audit.proofs.auditor.audited_end.AuditedEnd.say.Goals as goal

pub returns : goal.returns
returns c = says_so c.args.self.now c.add.new.self c.lend-self.result c.args.link c.next_place-place.result c.args.owed c.args.bytes.now
    c.in_ok-add.ensures.rest c.next_place-place.ensures c.in_ok-add.ensures.links c.lend-self.ensures
