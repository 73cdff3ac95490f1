use Rattle.std.proofs.Common.{refl, arith}
use Rattle.ha_audit.specs.declared.alone.auditor.AuditAlone.{AuditAlone}
use Rattle.ha_audit.proofs.AlonePlain.{tick_judged}
use Rattle.ha_audit.proofs.alone.auditor.AuditAlone.tick.Goals as goal

pub returns : goal.returns
returns c =
    let a = c.args.self.now in
    let new : AuditAlone = record a { end = c.tick.new.self; clock = c.args.moment } in
    tick_judged c.marks_follow.ensures c.told_is_history.ensures c.unread_stays.ensures c.takes_are_marked.ensures a new c.args.moment
    (omega (arith, c.if-moment-self.false))
    (record { begun = record { head = refl; side = refl; clock = refl }; splitter = refl; over = refl }) c.tick.ensures
