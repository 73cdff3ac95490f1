use Rattle.std.proofs.Common.{sym, ap, ◌∙◌, arith, length, drop}
use Rattle.std.specs.List.{starts_with}
use Rattle.std.proofs.lemmas.Bool.Decides.{Decides-eqb}
use Rattle.std.proofs.lemmas.Slice.Eq.{starts_is}
use lib.Dec.{eqb}
use Rattle.ha_audit.proofs.auditor.audited_end.AuditedEnd.is_next.Goals as goal

pub returns-clause-next : goal.returns-clause-next
returns-clause-next c =
    let rest = drop c.args.self.now.fed c.bytes_on.result.now in
    let p = c.args.piece.now in
    let is = starts_is Decides-eqb rest p c.starts_with.result (c.starts_with.ensures.value ∙ ap (λ s. starts_with eqb s p) c.rest.ensures) in
    let unread = c.saturating_sub-unread.ensures in
    let read = c.size_of_first.ensures in (
      (λ held. record {
        front = (drop (length p) rest, sym (is.0 held) ∙ ap (drop c.args.self.now.fed) c.bytes_on.ensures);
        few = omega (arith, c.if-unread-most.false, c.if-piece-most.false, unread, read);
      }),
      (λ h. is.1 h.front.0 (ap (drop c.args.self.now.fed) c.bytes_on.ensures ∙ sym h.front.1)),
    )
