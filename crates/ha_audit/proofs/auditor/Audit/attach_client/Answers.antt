use Rattle.std.proofs.Common.{inl, inr, refl, sym, ◌∙◌}
use Rattle.hd_delivery.specs.declared.vocabulary.Side.TheVariants.{Client}
use Rattle.ha_audit.specs.declared.auditor.Audit.{Audit}
use Rattle.ha_audit.proofs.AuditLinks.{may_not, attach_broken, attach_judged}
use Rattle.ha_audit.proofs.auditor.Audit.attach_client.Goals as goal

pub returns-then-not-may_begin : goal.returns-then-not-may_begin
returns-then-not-may_begin c = attach_broken c.marks_follow.ensures c.told_is_world.ensures c.attaches_by_numbers.ensures Client c.args.self.now c.args.self.now c.args.link
    (inl (sym c.may_begin.ensures ∙ c.if-not-may_begin.true))

pub returns-then-not-is_past_last : goal.returns-then-not-is_past_last
returns-then-not-is_past_last c = attach_broken c.marks_follow.ensures c.told_is_world.ensures c.attaches_by_numbers.ensures Client c.args.self.now c.args.self.now c.args.link
    (inr (λ above. may_not c.is_past_last.result c.if-not-is_past_last.true (c.is_past_last.ensures.1 above)))

pub returns : goal.returns
returns c =
    let a = c.args.self.now in
    let new : Audit = record { head = a.head; client = c.attach.new.self; server = a.server; clock = a.clock; control = a.control } in
    attach_judged c.marks_follow.ensures c.told_is_world.ensures c.attaches_by_numbers.ensures Client a new c.args.link
    c.unused_is_untouched.ensures c.unused_is_empty.ensures (sym c.may_begin.ensures ∙ c.if-not-may_begin.false) (c.is_past_last.ensures.0 c.if-not-is_past_last.false)
    c.in_ok-attach.ensures (record { head = refl; clock = refl; there = refl })
