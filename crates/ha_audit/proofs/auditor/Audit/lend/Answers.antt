use Rattle.std.proofs.Common.{refl, sym, subst, IfOk, ◌≡◌, length}
use Rattle.hd_delivery.specs.declared.vocabulary.Side.TheVariants.{Client, Server}
use Rattle.hd_delivery.specs.Histories.{Config}
use Rattle.hd_delivery.specs.Worlds.{config}
use Rattle.hd_trace.specs.declared.trace.ToldStep.TheVariants as tells
use Rattle.hd_trace.specs.Owed.{HasNextNumbers}
use Rattle.hd_trace.specs.Recording.{line_of}
use Rattle.ha_audit.specs.declared.auditor.Audit.{Audit}
use Rattle.ha_audit.specs.AuditKeeps.{Judges}
use Rattle.ha_audit.specs.AuditSteps.{LendsSo}
use Rattle.ha_audit.proofs.AuditAnswers.{if_ok}
use Rattle.ha_audit.proofs.AuditBegun.{sent_many}
use Rattle.ha_audit.proofs.AuditNumbers.{next_numbers}
use Rattle.ha_audit.proofs.AuditFrames.{lend_judged}
use Rattle.ha_audit.proofs.auditor.Audit.lend.Goals as goal

pub returns-in-Client : goal.returns-in-Client
returns-in-Client c =
    let a = c.args.self.now in
    let new : Audit = record { head = a.head; client = c.lend.new.self; server = a.server; clock = a.clock; control = c.lend.new.control } in
    subst (λ side. IfOk c.lend.result (Judges a new (line_of side (tells.Lend c.args.bytes.now)))) (sym c.in-Client.is)
    (if_ok (λ v. (o : Config) → o.side ≡ c.args.side → o.codec ≡ a.head.codec → o.version ≡ a.head.version → length a.client.sent.items ≡ a.client.marks.sent
    → HasNextNumbers a.client.marks → LendsSo o a.client c.lend.new.self c.args.bytes.now v)
    (Judges a new (line_of Client (tells.Lend c.args.bytes.now))) c.lend.result
    (λ v s. lend_judged c.marks_follow.ensures c.due_is_marked.ensures c.kept_is_known.ensures Client a new c.args.bytes.now v
    (λ x lines w keeps. s (config Client x.terms) (sym c.in-Client.is) (keeps.begun.codec Client) (keeps.begun.version Client) (sent_many x lines a w keeps Client)
    (next_numbers c.delivery_over_bytes.ensures c.fed_is_whole.ensures x lines a w keeps (c.kept_is_known.ensures x lines a w keeps) Client))
    (record { head = refl; clock = refl; there = refl }))
    c.lend.ensures)

pub returns-in-Server : goal.returns-in-Server
returns-in-Server c =
    let a = c.args.self.now in
    let new : Audit = record { head = a.head; client = a.client; server = c.lend-in-Server.new.self; clock = a.clock; control = c.lend-in-Server.new.control } in
    subst (λ side. IfOk c.lend-in-Server.result (Judges a new (line_of side (tells.Lend c.args.bytes.now)))) (sym c.in-Server.is)
    (if_ok (λ v. (o : Config) → o.side ≡ c.args.side → o.codec ≡ a.head.codec → o.version ≡ a.head.version → length a.server.sent.items ≡ a.server.marks.sent
    → HasNextNumbers a.server.marks → LendsSo o a.server c.lend-in-Server.new.self c.args.bytes.now v)
    (Judges a new (line_of Server (tells.Lend c.args.bytes.now))) c.lend-in-Server.result
    (λ v s. lend_judged c.marks_follow.ensures c.due_is_marked.ensures c.kept_is_known.ensures Server a new c.args.bytes.now v
    (λ x lines w keeps. s (config Server x.terms) (sym c.in-Server.is) (keeps.begun.codec Server) (keeps.begun.version Server) (sent_many x lines a w keeps Server)
    (next_numbers c.delivery_over_bytes.ensures c.fed_is_whole.ensures x lines a w keeps (c.kept_is_known.ensures x lines a w keeps) Server))
    (record { head = refl; clock = refl; there = refl }))
    c.lend-in-Server.ensures)
