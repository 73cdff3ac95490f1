use Rattle.std.proofs.Common.{◌≡◌, ◌++◌, ℕ, List, sym, ◌∙◌, ap, subst}
use Rattle.std.proofs.lemmas.Bool.Decides.{Decides-eqb}
use Rattle.std.proofs.lemmas.Slice.Eq.{slice_eq-Decides}
use Rattle.hm_message.specs.declared.message.Message.{Message}
use Rattle.hm_json.specs.Frame.{frame_of}
use Rattle.hm_json.specs.Says.{Says}
use Rattle.ha_audit.proofs.Once.{apart}
use Rattle.ha_audit.proofs.line.parse_message.Goals as goal

pub returns-else-eq-clause-none : goal.returns-else-eq-clause-none
returns-else-eq-clause-none c = λ m has e.
    let read = rw c.in-Ok-Message.field-0-is at c.in-Ok-Message.ensures.message in
    let says : Says c.args.frame.now m = subst (λ (frame : List ℕ). Says frame m) (sym e) has.said in
    let same : m ≡ c.in-Ok-Message.message = (c.one_meaning.ensures c.args.frame.now).one_message m c.in-Ok-Message.message says read.0 in
    let written : c.as_slice.result.now ≡ c.args.frame.now =
    c.as_slice.ensures.value ∙ c.in_ok-write_message.ensures.ok ∙ ap (λ (front : List ℕ). front ++ frame_of c.in-Ok-Message.message) c.new-written.ensures.items
    ∙ ap (λ (k : Message). frame_of k) (sym same) ∙ sym e in
    apart c.eq.result ((slice_eq-Decides Decides-eqb c.as_slice.result.now c.args.frame.now c.eq.result c.eq.ensures).1 written) c.if-eq.false
