use Rattle.std.proofs.Common.{refl}
use Rattle.hd_trace.specs.declared.trace.ToldStep.TheVariants as tells
use Rattle.ha_audit.specs.declared.alone.auditor.AuditAlone.{AuditAlone}
use Rattle.ha_audit.specs.AuditSteps.{SendsSo}
use Rattle.ha_audit.specs.AloneKeeps.{JudgesAlone}
use Rattle.ha_audit.proofs.AuditAnswers.{if_ok}
use Rattle.ha_audit.proofs.AloneMessages.{send_judged}
use Rattle.ha_audit.proofs.alone.auditor.AuditAlone.send.Goals as goal

pub returns : goal.returns
returns c =
    let a = c.args.self.now in
    let new : AuditAlone = record a { end = c.send.new.self } in
    if_ok (SendsSo a.end c.send.new.self a.head.limits c.args.message) (JudgesAlone a new (tells.Send c.args.message)) c.send.result
    (λ v s. send_judged c.marks_follow.ensures c.room_by_numbers.ensures c.kept_alone_is_known.ensures c.unread_stays.ensures
    a new c.args.message v c.requires s
    (record { begun = record { head = refl; side = refl; clock = refl }; splitter = refl; over = refl }))
    c.send.ensures
