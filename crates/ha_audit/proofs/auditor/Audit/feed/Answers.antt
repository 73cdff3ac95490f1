use Rattle.std.proofs.Common.{refl, sym, ap, subst, arith}
use Rattle.hd_delivery.specs.declared.vocabulary.Side.TheVariants.{Client, Server}
use Rattle.hd_trace.specs.declared.trace.ToldStep.TheVariants as tells
use Rattle.hd_trace.specs.Recording.{line_of}
use Rattle.ha_audit.specs.declared.auditor.Audit.{Audit}
use Rattle.ha_audit.specs.AuditKeeps.{Judges}
use Rattle.ha_audit.proofs.AuditBytes.{feed_judged}
use Rattle.ha_audit.proofs.auditor.Audit.feed.Goals as goal

pub returns-in-Client : goal.returns-in-Client
returns-in-Client c =
    let new : Audit = record { head = c.args.self.now.head; client = c.feed.new.self; server = c.args.self.now.server; clock = c.args.self.now.clock; control = c.args.self.now.control } in
    subst (λ side. Judges c.args.self.now new (line_of side (tells.Feed c.args.piece.now)) c.feed.result) (sym c.in-Client.is)
    (feed_judged c.marks_follow.ensures c.feeds_by_numbers.ensures c.unread_by_numbers.ensures c.taken_are_lent.ensures c.fed_is_unseen.ensures Client c.args.self.now new
    c.kept_is_known.ensures _ c.args.piece.now c.feed.result
    (λ x lines w keeps. let limit = ap (λ l. l.frame) keeps.begun.limits in let frame = c.frame-most.ensures.value in omega (arith, limit, frame)) c.feed.ensures
    (record { head = refl; clock = refl; there = refl }))

pub returns-in-Server : goal.returns-in-Server
returns-in-Server c =
    let new : Audit = record { head = c.args.self.now.head; client = c.args.self.now.client; server = c.feed-in-Server.new.self; clock = c.args.self.now.clock; control = c.args.self.now.control } in
    subst (λ side. Judges c.args.self.now new (line_of side (tells.Feed c.args.piece.now)) c.feed-in-Server.result) (sym c.in-Server.is)
    (feed_judged c.marks_follow.ensures c.feeds_by_numbers.ensures c.unread_by_numbers.ensures c.taken_are_lent.ensures c.fed_is_unseen.ensures Server c.args.self.now new
    c.kept_is_known.ensures _ c.args.piece.now c.feed-in-Server.result
    (λ x lines w keeps. let limit = ap (λ l. l.frame) keeps.begun.limits in let frame = c.frame-most.ensures.value in omega (arith, limit, frame)) c.feed-in-Server.ensures
    (record { head = refl; clock = refl; there = refl }))
