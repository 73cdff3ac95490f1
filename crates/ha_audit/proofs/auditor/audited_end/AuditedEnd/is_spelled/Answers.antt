use Rattle.std.proofs.Common.{◌≡◌, ◌↔◌, Bool, Some, IsTrue, max, slice_get, option_map, sym, subst}
use Rattle.hd_delivery.specs.Histories.{Config}
use Rattle.hd_trace.specs.declared.owed.Owed.{Owed}
use Rattle.hd_trace.specs.declared.owed.Owed.TheVariants as owed
use Rattle.hd_trace.specs.Owed.{owed_frame}
use Rattle.he_wire.specs.Spelling.{spelling}
use Rattle.ha_audit.specs.AuditState.{messages_of}
use Rattle.ha_audit.proofs.AuditAnswers.{if_ok}
use Rattle.ha_audit.proofs.auditor.audited_end.AuditedEnd.is_spelled.Goals as goal

pub returns-in-Message : goal.returns-in-Message
returns-in-Message c =
    let end = c.args.self.now in
    let P : Owed → Bool → Config → Type 0 = λ o answer k. IsTrue answer ↔ (option_map (spelling end.marks.codec) (owed_frame k
    (slice_get (messages_of end.sent.items) (max end.marks.acked end.marks.written)) (Some o)) ≡ Some c.args.bytes.now) in
    if_ok (λ answer. (k : Config) → P owed.Message answer k)
    (λ answer. (k : Config) → k.codec ≡ c.args.shake.codec → k.version ≡ c.args.shake.version → P c.args.owed answer k)
    c.is_next_message.result (λ answer is k codec version. subst (λ o. P o answer k) (sym c.in-Message.is) (is k)) c.is_next_message.ensures
