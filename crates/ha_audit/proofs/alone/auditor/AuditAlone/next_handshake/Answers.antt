use Rattle.std.proofs.Common.{Some, Ok, refl, sym, ap, ◌∙◌, subst}
use Rattle.hd_delivery.specs.declared.vocabulary.Got.TheVariants.{Shaken}
use Rattle.hd_delivery.specs.declared.vocabulary.Side.TheVariants.{Client, Server}
use Rattle.hd_delivery.specs.Frames.{Request, Response}
use Rattle.he_wire.specs.Gives.{TellsFirst}
use Rattle.ha_audit.proofs.AloneTaking.{framing_unshaken, shake_found}
use Rattle.ha_audit.proofs.alone.auditor.AuditAlone.next_handshake.Goals as goal

pub returns-in-Ok-Some-Request-clause-found : goal.returns-in-Ok-Some-Request-clause-found
returns-in-Ok-Some-Request-clause-found c = λ l o wire ready.
    let a = c.args.self.now in
    let shake = c.in-Ok-Some-Request.shake in
    let g = c.in-Ok-Some-Request in
    let tells = subst (λ o. TellsFirst a.side a.splitter (Ok o) (wire.first a.side a.splitter.bytes)) (g.field-0-is ∙ ap Some g.field-0-0-is)
    (g.ensures.told (ready.framing ∙ framing_unshaken a.end.marks c.requires) wire ready.is_wire) in
    let item = tells.2 in
    shake_found o wire a.end.marks l a.splitter c.shaken.result Server (Request shake.codec shake.version) item.0 c.requires
    (ready.begun.side_is ∙ tells.0) item.1.0
    (sym (ap (λ s. wire.first s a.splitter.bytes) tells.0) ∙ item.1.2) (ap Some (sym c.shaken.ensures.0)) refl c.shaken.ensures.1

pub returns-in-Ok-Some-Response-clause-found : goal.returns-in-Ok-Some-Response-clause-found
returns-in-Ok-Some-Response-clause-found c = λ l o wire ready.
    let a = c.args.self.now in
    let g = c.in-Ok-Some-Response in
    let tells = subst (λ o. TellsFirst a.side a.splitter (Ok o) (wire.first a.side a.splitter.bytes)) (g.field-0-is ∙ ap Some g.field-0-0-is)
    (g.ensures.told (ready.framing ∙ framing_unshaken a.end.marks c.requires) wire ready.is_wire) in
    let item = tells.1 in
    let taken = c.shaken-in-Ok-Some-Response in
    shake_found o wire a.end.marks l a.splitter taken.result Client Response item.0 c.requires (ready.begun.side_is ∙ tells.0) item.1.0
    (sym (ap (λ s. wire.first s a.splitter.bytes) tells.0) ∙ item.1.2)
    (ap Some (ap (λ y. Shaken y o.version) ready.begun.codec ∙
    (ap (Shaken a.head.codec) ready.begun.version ∙ sym taken.ensures.0))) refl taken.ensures.1
