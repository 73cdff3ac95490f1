use Rattle.std.proofs.Common.{refl, ap, arith}
use Rattle.ha_audit.specs.declared.alone.auditor.AuditAlone.{AuditAlone}
use Rattle.ha_audit.proofs.AloneBytes.{feed_judged}
use Rattle.ha_audit.proofs.alone.auditor.AuditAlone.feed.Goals as goal

pub returns : goal.returns
returns c =
    let a = c.args.self.now in
    let new : AuditAlone =
    record a { end = record a.end { marks = c.hear-self.result }; splitter = c.feed-count.new.self; over = c.saturating_add-self.result } in
    feed_judged c.marks_follow.ensures c.kept_alone_is_known.ensures c.unread_grows.ensures a new c.args.piece.now c.one_beginning.ensures
    c.in-Some.field-0 c.in-Some.is c.if-self.false
    (c.has_room_for.ensures.0 c.if-not-has_room_for.false) c.feed-count.result c.feed-count.ensures.within
    c.feed-count.ensures.refused c.feed-count.ensures.count c.feed-count.ensures.fed (λ low. omega (arith, c.saturating_add-self.ensures, low))
    (ap (λ m. record a.end { marks = m }) c.hear-self.ensures) (record { head = refl; side = refl; clock = refl })
