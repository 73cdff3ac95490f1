use Rattle.std.proofs.Common.{◌≡◌, ◌↔◌, IsTrue, true, false, refl}
use Rattle.hd_delivery.specs.declared.vocabulary.Side.TheVariants.{Client, Server}
use Rattle.hd_delivery.specs.Worlds.{config}
use Rattle.ha_audit.specs.AuditStill.{IsStillOn}
use Rattle.ha_audit.proofs.AuditBegun.{sent_many}
use Rattle.ha_audit.proofs.AuditStanding.{acked_small, away, both_still, still_both}
use Rattle.ha_audit.proofs.auditor.Audit.is_still.Goals as goal

pub returns-in_default : goal.returns-in_default
returns-in_default c = λ x lines w keeps.
    let a = c.args.self.now in
    let known = c.kept_is_known.ensures x lines a w keeps in (
      λ (t : false ≡ true). absurd (cc),
      λ still. absurd (away x lines a w keeps known c.due_is_marked.ensures c.takes_are_marked.ensures c.still_by_numbers.ensures c.in_default.is still),
    )

pub returns-then-not-is_still : goal.returns-then-not-is_still
returns-then-not-is_still c = λ x lines w keeps.
    let a = c.args.self.now in
    let l = c.in-Some.link in
    let known = c.kept_is_known.ensures x lines a w keeps in
    let client : IsTrue c.is_still.result ↔ IsStillOn (config Client x.terms) a.client a.server l =
    c.is_still.ensures (config Client x.terms) refl (sent_many x lines a w keeps Client) (acked_small x lines a w keeps known Client) in
    let both = still_both x lines a w keeps known c.due_is_marked.ensures c.takes_are_marked.ensures c.still_by_numbers.ensures l c.in-Some.is in (
      λ (t : false ≡ true). absurd (cc),
      λ still. absurd (let yes : c.is_still.result ≡ true = client.1 (both still).0 in let no = c.if-not-is_still.true in cc),
    )

pub returns : goal.returns
returns c = λ x lines w keeps.
    let a = c.args.self.now in
    let l = c.in-Some.link in
    let known = c.kept_is_known.ensures x lines a w keeps in
    let client : IsTrue c.is_still.result ↔ IsStillOn (config Client x.terms) a.client a.server l =
    c.is_still.ensures (config Client x.terms) refl (sent_many x lines a w keeps Client) (acked_small x lines a w keeps known Client) in
    let server : IsTrue c.is_still-2.result ↔ IsStillOn (config Server x.terms) a.server a.client l =
    c.is_still-2.ensures (config Server x.terms) refl (sent_many x lines a w keeps Server) (acked_small x lines a w keeps known Server) in
    let due = c.due_is_marked.ensures in
    let marked = c.takes_are_marked.ensures in
    let numbers = c.still_by_numbers.ensures in (
      λ t. both_still x lines a w keeps known due marked numbers l (client.0 c.if-not-is_still.false) (server.0 t),
      λ still. server.1 (still_both x lines a w keeps known due marked numbers l c.in-Some.is still).1,
    )
