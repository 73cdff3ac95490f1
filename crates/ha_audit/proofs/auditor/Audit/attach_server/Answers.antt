use Rattle.std.proofs.Common.{inl, inr, refl, sym, ◌∙◌}
use Rattle.hd_delivery.specs.declared.vocabulary.Side.TheVariants.{Server}
use Rattle.ha_audit.specs.declared.auditor.Audit.{Audit}
use Rattle.ha_audit.proofs.AuditLinks.{may_not, attach_broken, attach_judged}
use Rattle.ha_audit.proofs.auditor.Audit.attach_server.Goals as goal

pub returns-then-not-may_begin : goal.returns-then-not-may_begin
returns-then-not-may_begin c = attach_broken c.marks_follow.ensures c.told_is_world.ensures c.attaches_by_numbers.ensures Server c.args.self.now c.args.self.now c.args.link
    (inl (sym c.may_begin.ensures ∙ c.if-not-may_begin.true))

pub returns-then-was_on : goal.returns-then-was_on
returns-then-was_on c = attach_broken c.marks_follow.ensures c.told_is_world.ensures c.attaches_by_numbers.ensures Server c.args.self.now c.args.self.now c.args.link
    (inr (λ new. may_not c.was_on.result (c.was_on.ensures ∙ new.1) c.if-was_on.true))

pub returns-then-not-was_on : goal.returns-then-not-was_on
returns-then-not-was_on c = attach_broken c.marks_follow.ensures c.told_is_world.ensures c.attaches_by_numbers.ensures Server c.args.self.now c.args.self.now c.args.link
    (inr (λ new. may_not c.was_on-2.result c.if-not-was_on.true (c.was_on-2.ensures ∙ new.0)))

pub returns : goal.returns
returns c =
    let a = c.args.self.now in
    let new : Audit = record { head = a.head; client = a.client; server = c.attach.new.self; clock = a.clock; control = a.control } in
    attach_judged c.marks_follow.ensures c.told_is_world.ensures c.attaches_by_numbers.ensures Server a new c.args.link
    c.unused_is_untouched.ensures c.unused_is_empty.ensures (sym c.may_begin.ensures ∙ c.if-not-may_begin.false)
    (sym c.was_on-2.ensures ∙ c.if-not-was_on.false, sym c.was_on.ensures ∙ c.if-was_on.false)
    c.in_ok-attach.ensures (record { head = refl; clock = refl; there = refl })
