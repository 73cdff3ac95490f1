use Rattle.std.proofs.Common.{refl, sym, subst, arith, None}
use Rattle.hd_delivery.specs.declared.vocabulary.Side.TheVariants.{Client, Server}
use Rattle.hd_trace.specs.declared.trace.ToldStep.TheVariants as tells
use Rattle.hd_trace.specs.Recording.{line_of}
use Rattle.ha_audit.specs.declared.auditor.Audit.{Audit}
use Rattle.ha_audit.specs.AuditKeeps.{Judges}
use Rattle.ha_audit.proofs.AuditPlain.{tick_judged}
use Rattle.ha_audit.proofs.auditor.Audit.tick.Goals as goal

pub returns-in-Client : goal.returns-in-Client
returns-in-Client c =
    let new : Audit = record { head = c.args.self.now.head; client = c.tick.new.self; server = c.args.self.now.server; clock = c.args.moment; control = c.args.self.now.control } in
    subst (λ side. Judges c.args.self.now new (line_of side (tells.Tick c.args.moment)) None) (sym c.in-Client.is)
    (tick_judged c.marks_follow.ensures c.told_is_world.ensures Client c.args.self.now new c.takes_are_marked.ensures c.args.moment (omega (arith, c.if-moment-self.false))
    (record { head = refl; clock = refl; there = refl }) c.tick.ensures)

pub returns-in-Server : goal.returns-in-Server
returns-in-Server c =
    let new : Audit = record { head = c.args.self.now.head; client = c.args.self.now.client; server = c.tick-in-Server.new.self; clock = c.args.moment; control = c.args.self.now.control } in
    subst (λ side. Judges c.args.self.now new (line_of side (tells.Tick c.args.moment)) None) (sym c.in-Server.is)
    (tick_judged c.marks_follow.ensures c.told_is_world.ensures Server c.args.self.now new c.takes_are_marked.ensures c.args.moment (omega (arith, c.if-moment-self.false))
    (record { head = refl; clock = refl; there = refl }) c.tick-in-Server.ensures)
