use Rattle.std.proofs.Common.{◌≡◌, None, Some, refl, sym, ap, ◌∙◌, is_some}
use Rattle.hd_delivery.specs.Worlds.{config}
use Rattle.ha_audit.proofs.AuditLists.{sent_none}
use Rattle.ha_audit.proofs.alone.auditor.AuditAlone.start.Goals as goal

pub returns-clause-kept : goal.returns-clause-kept
returns-clause-kept c = λ x begun. record {
  begun = begun;
  tells = refl;
  clock_is = refl;
  kept = record {
    marks = c.start-end.ensures.marks (config c.args.side x.terms) (begun.codec c.args.side);
    near = record { next = λ r t. tt; said = tt };
    sent = sent_none _ c.start-end.result.sent.items c.start-end.ensures.sent;
    links = λ l. ap is_some (c.start-end.ensures.links l);
    last = c.start-end.ensures.last;
    most = ap (λ s. s.most) c.in_ok-splitter.ensures.empty ∙ (c.frame.ensures.value ∙ sym (ap (λ l. l.frame) begun.limits));
    holds = λ l here. absurd (let z : None ≡ Some l = here in cc);
  };
}
