use Rattle.std.proofs.Common.{IfSome, IfNone, subst, ◌≡◌, ◌≤◌, ◌↔◌, IsTrue, suc}
use Rattle.hd_delivery.specs.Numbers.{most_messages}
use Rattle.sr_notation.specs.Words.{got_words}
use Rattle.ha_audit.specs.declared.alone.auditor.AuditAlone.{AuditAlone}
use Rattle.ha_audit.specs.AloneSteps.{FindsSome, FindsNone}
use Rattle.ha_audit.proofs.AloneTaken.{take_broken_none, take_broken_told, take_judged}
use Rattle.ha_audit.proofs.alone.auditor.AuditAlone.take.Goals as goal

pub returns-in_default-2 : goal.returns-in_default-2
returns-in_default-2 c =
    let a = c.args.self.now in
    take_broken_none c.marks_follow.ensures c.kept_alone_is_known.ensures a c.next.new.self c.args.words.now
    c.next_is_read.ensures c.takes_are_marked.ensures
    c.in-Some.link c.in-Some.is c.if-self.false (subst (λ o. IfNone o (FindsNone a c.in-Some.link)) c.in_default-2.is c.in_ok-taken.ensures.none)

pub returns-then-not-branch : goal.returns-then-not-branch
returns-then-not-branch c =
    let a = c.args.self.now in
    let taken = c.in-Some-2.taken in
    take_broken_told c.marks_follow.ensures c.kept_alone_is_known.ensures a c.next.new.self c.args.words.now
    c.next_is_read.ensures c.takes_are_marked.ensures
    c.in-Some.link c.in-Some.is c.if-self.false taken (subst (λ o. IfSome o (FindsSome a c.in-Some.link)) c.in-Some-2.is c.in_ok-taken.ensures.found)
    c.in_ok-is_told.field-0 c.if-not-branch.true
    (subst (λ (e : AuditAlone). e.end.marks.processed ≤ most_messages → IsTrue c.in_ok-is_told.field-0 ↔
    (got_words (suc e.end.marks.processed) taken.got ≡ c.args.words.now))
    c.in_ok-taken.ensures.rest c.in_ok-is_told.ensures)

pub returns : goal.returns
returns c =
    let a = c.args.self.now in
    let taken = c.in-Some-2.taken in
    take_judged c.marks_follow.ensures c.kept_alone_is_known.ensures a c.pass.new.self c.args.words.now
    c.next_is_read.ensures c.takes_are_marked.ensures
    c.in-Some.link c.in-Some.is c.if-self.false c.unread_moves.ensures c.one_beginning.ensures c.frames_are_taken.ensures c.next.new.self taken
    c.in_ok-taken.ensures.rest (subst (λ o. IfSome o (FindsSome a c.in-Some.link)) c.in-Some-2.is c.in_ok-taken.ensures.found) c.pass.ensures
    c.in_ok-is_told.field-0 c.if-not-branch.false
    (subst (λ (e : AuditAlone). e.end.marks.processed ≤ most_messages → IsTrue c.in_ok-is_told.field-0 ↔
    (got_words (suc e.end.marks.processed) taken.got ≡ c.args.words.now))
    c.in_ok-taken.ensures.rest c.in_ok-is_told.ensures)
