use Rattle.std.proofs.Common.{refl, sym, subst}
use Rattle.hd_delivery.specs.declared.vocabulary.Side.TheVariants.{Client, Server}
use Rattle.hd_trace.specs.declared.trace.ToldStep.TheVariants as tells
use Rattle.hd_trace.specs.Recording.{line_of}
use Rattle.ha_audit.specs.declared.auditor.Audit.{Audit}
use Rattle.ha_audit.specs.AuditKeeps.{Judges}
use Rattle.ha_audit.proofs.AuditPlain.{close_judged}
use Rattle.ha_audit.proofs.auditor.Audit.close.Goals as goal

pub returns-in-Client : goal.returns-in-Client
returns-in-Client c =
    let new : Audit = record { head = c.args.self.now.head; client = c.close.new.self; server = c.args.self.now.server; clock = c.args.self.now.clock; control = c.args.self.now.control } in
    subst (λ side. Judges c.args.self.now new (line_of side tells.Close) c.close.result) (sym c.in-Client.is)
    (close_judged c.marks_follow.ensures c.told_is_world.ensures Client c.args.self.now new c.close.result c.close.ensures.ok c.close.ensures.broken
    (record { head = refl; clock = refl; there = refl }))

pub returns-in-Server : goal.returns-in-Server
returns-in-Server c =
    let new : Audit = record { head = c.args.self.now.head; client = c.args.self.now.client; server = c.close-in-Server.new.self; clock = c.args.self.now.clock; control = c.args.self.now.control } in
    subst (λ side. Judges c.args.self.now new (line_of side tells.Close) c.close-in-Server.result) (sym c.in-Server.is)
    (close_judged c.marks_follow.ensures c.told_is_world.ensures Server c.args.self.now new c.close-in-Server.result c.close-in-Server.ensures.ok c.close-in-Server.ensures.broken
    (record { head = refl; clock = refl; there = refl }))
