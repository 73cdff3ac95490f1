use Rattle.std.proofs.Common.{refl}
use Rattle.hd_trace.specs.declared.trace.ToldStep.TheVariants as tells
use Rattle.ha_audit.specs.declared.alone.auditor.AuditAlone.{AuditAlone}
use Rattle.ha_audit.specs.AloneKeeps.{JudgesAlone}
use Rattle.ha_audit.proofs.AuditAnswers.{if_ok}
use Rattle.ha_audit.proofs.AloneFrames.{LendsAlone, lend_judged}
use Rattle.ha_audit.proofs.alone.auditor.AuditAlone.lend.Goals as goal

pub returns : goal.returns
returns c =
    let a = c.args.self.now in
    let new : AuditAlone = record a { end = c.lend.new.self; control = c.lend.new.control } in
    if_ok (LendsAlone a new c.args.bytes.now) (JudgesAlone a new (tells.Lend c.args.bytes.now)) c.lend.result
    (λ v s. lend_judged c.marks_follow.ensures c.due_is_marked.ensures c.kept_alone_is_known.ensures c.unread_stays.ensures a new c.args.bytes.now v
    s
    (record { begun = record { head = refl; side = refl; clock = refl }; splitter = refl; over = refl }))
    c.lend.ensures
