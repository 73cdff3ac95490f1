use Rattle.std.proofs.Common.{refl, sym, subst, IfOk}
use Rattle.hd_delivery.specs.declared.vocabulary.Side.TheVariants.{Client, Server}
use Rattle.hd_trace.specs.declared.trace.ToldStep.TheVariants as tells
use Rattle.hd_trace.specs.Recording.{line_of}
use Rattle.ha_audit.specs.declared.auditor.Audit.{Audit}
use Rattle.ha_audit.specs.AuditKeeps.{Judges}
use Rattle.ha_audit.proofs.AuditAnswers.{if_ok}
use Rattle.ha_audit.specs.AuditSteps.{SendsSo}
use Rattle.ha_audit.proofs.AuditMessages.{send_judged}
use Rattle.ha_audit.proofs.auditor.Audit.send.Goals as goal

pub returns-in-Client : goal.returns-in-Client
returns-in-Client c =
    let a = c.args.self.now in
    let new : Audit = record { head = a.head; client = c.send.new.self; server = a.server; clock = a.clock; control = a.control } in
    subst (λ side. IfOk c.send.result (Judges a new (line_of side (tells.Send c.args.message)))) (sym c.in-Client.is)
    (if_ok (SendsSo a.client c.send.new.self a.head.limits c.args.message) (Judges a new (line_of Client (tells.Send c.args.message))) c.send.result
    (λ v s. send_judged c.marks_follow.ensures c.room_by_numbers.ensures c.kept_is_known.ensures Client a new c.args.message v c.requires s (record { head = refl; clock = refl; there = refl }))
    c.send.ensures)

pub returns-in-Server : goal.returns-in-Server
returns-in-Server c =
    let a = c.args.self.now in
    let new : Audit = record { head = a.head; client = a.client; server = c.send-in-Server.new.self; clock = a.clock; control = a.control } in
    subst (λ side. IfOk c.send-in-Server.result (Judges a new (line_of side (tells.Send c.args.message)))) (sym c.in-Server.is)
    (if_ok (SendsSo a.server c.send-in-Server.new.self a.head.limits c.args.message) (Judges a new (line_of Server (tells.Send c.args.message))) c.send-in-Server.result
    (λ v s. send_judged c.marks_follow.ensures c.room_by_numbers.ensures c.kept_is_known.ensures Server a new c.args.message v c.requires s (record { head = refl; clock = refl; there = refl }))
    c.send-in-Server.ensures)
