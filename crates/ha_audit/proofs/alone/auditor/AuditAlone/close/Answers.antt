use Rattle.std.proofs.Common.{refl}
use Rattle.ha_audit.specs.declared.alone.auditor.AuditAlone.{AuditAlone}
use Rattle.ha_audit.proofs.AlonePlain.{close_judged}
use Rattle.ha_audit.proofs.alone.auditor.AuditAlone.close.Goals as goal

pub returns : goal.returns
returns c =
    let a = c.args.self.now in
    let new : AuditAlone = record a { end = c.close.new.self } in
    close_judged c.marks_follow.ensures c.unread_stays.ensures a new c.close.result c.close.ensures.ok c.close.ensures.broken
    (record { begun = record { head = refl; side = refl; clock = refl }; splitter = refl; over = refl })
