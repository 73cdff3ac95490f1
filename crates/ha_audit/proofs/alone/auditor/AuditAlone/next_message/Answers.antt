use Rattle.std.proofs.Common.{Ok, ◌∙◌, subst}
use Rattle.he_wire.specs.Gives.{TellsLater}
use Rattle.ha_audit.proofs.AloneTaking.{framing_shaken, read_found}
use Rattle.ha_audit.proofs.alone.auditor.AuditAlone.next_message.Goals as goal

pub returns-in-Some-clause-found : goal.returns-in-Some-clause-found
returns-in-Some-clause-found c = λ o wire ready.
    let a = c.args.self.now in
    read_found o wire a.end.marks c.args.link a.splitter
    (record { next = c.next_after-next.result; got = c.in-Some.got }) c.in-Ok-Some.read c.requires
    (subst (λ o. TellsLater a.end.marks.codec a.splitter (Ok o) (wire.later a.end.marks.codec a.splitter.bytes)) c.in-Ok-Some.field-0-is
    (c.in-Ok-Some.ensures.told (ready.framing ∙ framing_shaken a.end.marks c.requires) wire ready.is_wire))
    (c.in-Some.ensures.value ready.few) c.next_after-next.ensures
