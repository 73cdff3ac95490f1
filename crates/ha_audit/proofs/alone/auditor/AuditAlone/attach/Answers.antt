use Rattle.std.proofs.Common.{inr, refl, sym, ap, ◌∙◌}
use Rattle.ha_audit.specs.declared.alone.auditor.AuditAlone.{AuditAlone}
use Rattle.hf_split.specs.Held.{at_start}
use Rattle.ha_audit.proofs.AuditLinks.{may_not}
use Rattle.ha_audit.proofs.AloneLinks.{attach_broken, attach_judged}
use Rattle.ha_audit.proofs.alone.auditor.AuditAlone.attach.Goals as goal

pub returns-then-not-is_new : goal.returns-then-not-is_new
returns-then-not-is_new c =
    attach_broken c.marks_follow.ensures c.told_is_history.ensures c.attaches_alone_by_numbers.ensures c.args.self.now c.args.self.now c.args.link
    (inr (λ name. may_not c.is_new.result c.if-not-is_new.true (c.is_new.ensures.1 name)))

pub returns : goal.returns
returns c =
    let a = c.args.self.now in
    let new : AuditAlone = record a { end = c.attach.new.self; splitter = c.reset.new.self; over = 0 } in
    attach_judged c.marks_follow.ensures c.told_is_history.ensures c.attaches_alone_by_numbers.ensures a new c.args.link
    c.unread_begins.ensures (sym c.may_begin.ensures ∙ c.if-not-may_begin.false) (c.is_new.ensures.0 c.if-not-is_new.false)
    c.in_ok-attach.ensures (record { head = refl; side = refl; clock = refl })
    (c.reset.ensures.empty ∙ ap (λ f. at_start f c.args.self.now.splitter.most) c.framing-framing.ensures) refl
