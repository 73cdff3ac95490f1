use Rattle.std.proofs.Common.{◌≡◌, suc, sym, ap₂, slice_get, arith}
use Rattle.ha_audit.specs.declared.auditor.audited_end.AuditedEnd.{AuditedEnd}
use Rattle.ha_audit.specs.AuditState.{frames_of, said_on}
use Rattle.ha_audit.specs.AuditSteps.{IsOpenAt}
use Rattle.ha_audit.proofs.AuditSent.{message_at}
use Rattle.ha_audit.proofs.AuditTaken.{whole_is}
use Rattle.ha_audit.proofs.AuditTaking.{none_given, other_words, same_words}
use Rattle.ha_audit.proofs.auditor.audited_end.AuditedEnd.take.Goals as goal

pub returns-in_default-gives : goal.returns-in_default-gives
returns-in_default-gives c = λ k oc side here there low small frames.
    none_given k oc c.args.self.now c.args.other.now c.in-Some.link c.args.words.now (record { here = c.in-Some.is; unclosed = c.if-self.false })
    c.args.side side low c.in-Some-next_frame.said (sym c.in-Some-next_frame.ensures.next) c.in_default-gives.ensures

pub returns-then-not-branch : goal.returns-then-not-branch
returns-then-not-branch c = λ k oc side here there low small frames.
    other_words k oc c.args.self.now c.args.other.now c.in-Some.link c.args.words.now (record { here = c.in-Some.is; unclosed = c.if-self.false })
    c.args.side side low c.in-Some-next_frame.said (sym c.in-Some-next_frame.ensures.next) c.in-Some-gives.given c.in_ok-is_told.field-0 c.in-Some-gives.ensures
    (λ msg carried. c.in_ok-is_told.ensures k oc msg c.args.reconnect here there low
    (λ is. message_at c.args.other.now.sent.items c.deref.result.now c.in-Some-next_frame.said.place c.get.result msg c.deref.ensures.value c.get.ensures.lookup (carried is)))
    c.if-not-branch.true

pub returns : goal.returns
returns c = λ k oc side here there low small frames.
    let old : AuditedEnd = c.args.self.now in
    let said = c.in-Some-next_frame.said in
    let next = sym c.in-Some-next_frame.ensures.next in
    let opened : IsOpenAt old.marks c.in-Some.link = record { here = c.in-Some.is; unclosed = c.if-self.false } in
    let at = (whole_is (slice_get (frames_of (said_on c.args.other.now.links c.in-Some.link)) old.taken) old.fed said next).0 in
    let frame = frames c.in-Some.link old.taken said at in
    let few = c.in-Some-next_frame.ensures.few in
    let one_more : c.saturating_add-self.result ≡ suc old.taken = (let added = c.saturating_add-self.ensures in omega (arith, added, few)) in
    same_words k oc old c.args.other.now c.in-Some.link c.args.words.now opened c.args.side side low said next c.in-Some-gives.given c.in_ok-is_told.field-0
    (record old { marks = c.after_taking-self.result; taken = c.saturating_add-self.result }) frame.0 c.in-Some-gives.ensures
    (λ msg carried. c.in_ok-is_told.ensures k oc msg c.args.reconnect here there low
    (λ is. message_at c.args.other.now.sent.items c.deref.result.now said.place c.get.result msg c.deref.ensures.value c.get.ensures.lookup (carried is)))
    c.if-not-branch.false frame.1
    (λ msg. ap₂ (λ marks taken. record old { marks = marks; taken = taken }) (c.after_taking-self.ensures k oc msg here there low small) one_more)
