use Rattle.std.proofs.Common.{◌≡◌, ◌++◌, ℕ, List, Some, max, length, slice_get, option_map, refl, sym, ap, ap₂, ◌∙◌}
use Rattle.std.proofs.lemmas.Bool.Decides.{Decides-eqb}
use Rattle.std.proofs.lemmas.Option.{slice_get-map, slice_get_read}
use Rattle.std.proofs.lemmas.Slice.Eq.{slice_eq-Decides}
use Rattle.hm_message.specs.declared.message.Message.{Message}
use Rattle.hm_codec.specs.Frames.{framed}
use Rattle.ha_audit.specs.AuditState.{messages_of}
use Rattle.ha_audit.proofs.AuditSaying.{next_spelled}
use Rattle.ha_audit.proofs.auditor.audited_end.AuditedEnd.is_next_message.Goals as goal

pub returns : goal.returns
returns c = λ config.
    let end = c.args.self.now in
    let m : Message = c.in-Some.next.now.message in
    let got : slice_get end.sent.items (max end.marks.acked end.marks.written) ≡ Some c.in-Some.next.now =
    ap₂ (λ xs n. slice_get xs n) (sym c.deref.ensures.value) (sym c.next_place.ensures)
    ∙ slice_get_read c.deref.result.now (length c.deref.result.now) c.next_place.result c.in-Some.next.now
    refl c.in-Some.ensures.lookup.3.0 c.in-Some.ensures.lookup.1 in
    let next : slice_get (messages_of end.sent.items) (max end.marks.acked end.marks.written) ≡ Some m =
    slice_get-map (λ s. s.message) end.sent.items (max end.marks.acked end.marks.written) ∙ ap (option_map (λ s. s.message)) got in
    let written : c.as_slice.result.now ≡ framed end.marks.codec m =
    c.as_slice.ensures.value ∙ c.in_ok-write_message.ensures.ok
    ∙ ap (λ (front : List ℕ). front ++ framed end.marks.codec m) c.new-framed.ensures.items in
    next_spelled end.marks.codec (slice_get (messages_of end.sent.items) (max end.marks.acked end.marks.written)) m
    c.as_slice.result.now c.args.bytes.now c.eq.result next written (slice_eq-Decides Decides-eqb c.as_slice.result.now c.args.bytes.now c.eq.result c.eq.ensures)
