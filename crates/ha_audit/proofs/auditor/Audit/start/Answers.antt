use Rattle.std.proofs.Common.{refl}
use Rattle.ha_audit.specs.declared.auditor.Audit.{Audit}
use Rattle.ha_audit.proofs.AuditStart.{kept_before}
use Rattle.ha_audit.proofs.auditor.Audit.start.Goals as goal

pub returns-clause-kept : goal.returns-clause-kept
returns-clause-kept c = λ x begun.
    let client = c.start-client.ensures in
    let server = c.start-server.ensures in
    let a : Audit = record { head = c.args.head; client = c.start-client.result; server = c.start-server.result; clock = 0; control = c.in_ok-control.control } in
    kept_before x a begun refl
    (record { marks = client.marks; sent = client.sent; last = client.last; links = client.links })
    (record { marks = server.marks; sent = server.sent; last = server.last; links = server.links })
