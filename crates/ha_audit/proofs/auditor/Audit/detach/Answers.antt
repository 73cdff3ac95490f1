use Rattle.std.proofs.Common.{refl, sym, subst}
use Rattle.hd_delivery.specs.declared.vocabulary.Side.TheVariants.{Client, Server}
use Rattle.hd_trace.specs.declared.trace.ToldStep.TheVariants as tells
use Rattle.hd_trace.specs.Recording.{line_of}
use Rattle.ha_audit.specs.declared.auditor.Audit.{Audit}
use Rattle.ha_audit.specs.AuditKeeps.{Judges}
use Rattle.ha_audit.proofs.AuditPlain.{detach_judged}
use Rattle.ha_audit.proofs.auditor.Audit.detach.Goals as goal

pub returns-in-Client : goal.returns-in-Client
returns-in-Client c =
    let new : Audit = record { head = c.args.self.now.head; client = c.detach.new.self; server = c.args.self.now.server; clock = c.args.self.now.clock; control = c.args.self.now.control } in
    subst (λ side. Judges c.args.self.now new (line_of side tells.Detach) c.detach.result) (sym c.in-Client.is)
    (detach_judged c.marks_follow.ensures c.told_is_world.ensures Client c.args.self.now new c.detach.result c.detach.ensures.ok c.detach.ensures.broken
    (record { head = refl; clock = refl; there = refl }))

pub returns-in-Server : goal.returns-in-Server
returns-in-Server c =
    let new : Audit = record { head = c.args.self.now.head; client = c.args.self.now.client; server = c.detach-in-Server.new.self; clock = c.args.self.now.clock; control = c.args.self.now.control } in
    subst (λ side. Judges c.args.self.now new (line_of side tells.Detach) c.detach-in-Server.result) (sym c.in-Server.is)
    (detach_judged c.marks_follow.ensures c.told_is_world.ensures Server c.args.self.now new c.detach-in-Server.result c.detach-in-Server.ensures.ok c.detach-in-Server.ensures.broken
    (record { head = refl; clock = refl; there = refl }))
