use Rattle.std.proofs.Common.{refl, sym, subst, IfOk, IfSome, ◌≡◌, ◌≤◌, ◌<◌}
use Rattle.hd_delivery.specs.declared.vocabulary.Side.TheVariants.{Client, Server}
use Rattle.hd_delivery.specs.Histories.{Config}
use Rattle.hd_delivery.specs.Numbers.{most_messages, most_of_64_bits}
use Rattle.hd_delivery.specs.Worlds.{config}
use Rattle.hd_trace.specs.declared.trace.ToldStep.TheVariants as tells
use Rattle.hd_trace.specs.Recording.{line_of}
use Rattle.ha_audit.specs.declared.auditor.Audit.{Audit}
use Rattle.ha_audit.specs.AuditKeeps.{Judges}
use Rattle.ha_audit.specs.AuditSteps.{IsBegunLike, HasFrames, TakesSo}
use Rattle.ha_audit.proofs.AuditAnswers.{if_ok}
use Rattle.ha_audit.proofs.AuditBegun.{begun_like, processed_few, has_frames}
use Rattle.ha_audit.proofs.AuditNumbers.{next_small}
use Rattle.ha_audit.proofs.AuditTaken.{take_judged}
use Rattle.ha_audit.proofs.auditor.Audit.take.Goals as goal

pub returns-in-Client : goal.returns-in-Client
returns-in-Client c =
    let a = c.args.self.now in
    let new : Audit = record { head = a.head; client = c.take.new.self; server = a.server; clock = a.clock; control = a.control } in
    subst (λ side. IfOk c.take.result (Judges a new (line_of side (tells.Take c.args.words.now)))) (sym c.in-Client.is)
    (if_ok (λ v. (o oc : Config) → o.side ≡ c.args.side → IsBegunLike o (record { codec = a.head.codec; version = a.head.version }) a.head.reconnect
    → IsBegunLike oc (record { codec = a.head.codec; version = a.head.version }) a.head.reconnect → a.client.marks.processed ≤ most_messages
    → IfSome a.client.marks.next (λ n. n < most_of_64_bits) → HasFrames oc a.server → TakesSo o oc a.client c.take.new.self a.server c.args.words.now v)
    (Judges a new (line_of Client (tells.Take c.args.words.now))) c.take.result
    (λ v s. take_judged c.marks_follow.ensures c.takes_by_lines.ensures c.next_is_fed.ensures c.kept_is_known.ensures Client a new c.args.words.now v
    (λ x lines w keeps. let known = c.kept_is_known.ensures x lines a w keeps in
    s (config Client x.terms) (config Server x.terms) (sym c.in-Client.is) (begun_like x lines a w keeps Client) (begun_like x lines a w keeps Server) (processed_few x lines a w keeps Client known)
    (next_small c.delivery_over_bytes.ensures c.fed_is_whole.ensures x lines a w keeps known Client) (has_frames x lines a w keeps Server))
    (record { head = refl; clock = refl; there = refl }))
    c.take.ensures)

pub returns-in-Server : goal.returns-in-Server
returns-in-Server c =
    let a = c.args.self.now in
    let new : Audit = record { head = a.head; client = a.client; server = c.take-in-Server.new.self; clock = a.clock; control = a.control } in
    subst (λ side. IfOk c.take-in-Server.result (Judges a new (line_of side (tells.Take c.args.words.now)))) (sym c.in-Server.is)
    (if_ok (λ v. (o oc : Config) → o.side ≡ c.args.side → IsBegunLike o (record { codec = a.head.codec; version = a.head.version }) a.head.reconnect
    → IsBegunLike oc (record { codec = a.head.codec; version = a.head.version }) a.head.reconnect → a.server.marks.processed ≤ most_messages
    → IfSome a.server.marks.next (λ n. n < most_of_64_bits) → HasFrames oc a.client → TakesSo o oc a.server c.take-in-Server.new.self a.client c.args.words.now v)
    (Judges a new (line_of Server (tells.Take c.args.words.now))) c.take-in-Server.result
    (λ v s. take_judged c.marks_follow.ensures c.takes_by_lines.ensures c.next_is_fed.ensures c.kept_is_known.ensures Server a new c.args.words.now v
    (λ x lines w keeps. let known = c.kept_is_known.ensures x lines a w keeps in
    s (config Server x.terms) (config Client x.terms) (sym c.in-Server.is) (begun_like x lines a w keeps Server) (begun_like x lines a w keeps Client) (processed_few x lines a w keeps Server known)
    (next_small c.delivery_over_bytes.ensures c.fed_is_whole.ensures x lines a w keeps known Server) (has_frames x lines a w keeps Client))
    (record { head = refl; clock = refl; there = refl }))
    c.take-in-Server.ensures)
