use Rattle.std.proofs.Common.{◌≡◌, ◌++◌, ℕ, suc, Bool, List, Some, ap, ap₂, ◌∙◌, arith, option_map}
use Rattle.std.proofs.lemmas.Bool.Decides.{Decides-eqb}
use Rattle.std.proofs.lemmas.Slice.Eq.{slice_eq-Decides}
use Rattle.hm_message.specs.declared.message.Message.{Message}
use Rattle.hd_delivery.specs.Histories.{Config}
use Rattle.sr_notation.specs.Words.{got_words}
use Rattle.hd_trace.specs.declared.given.Given.TheVariants as outcome
use Rattle.hd_trace.specs.Given.{given_got}
use Rattle.ha_audit.specs.AuditSteps.{IsBegunLike}
use Rattle.ha_audit.proofs.AuditSent.{if_some, words_told}
use Rattle.ha_audit.proofs.auditor.audited_end.AuditedEnd.is_told.Goals as goal

pub returns : goal.returns
returns c = λ k oc msg reconnect here there low carried.
    let processed = c.args.self.now.marks.processed in
    let got = c.in-Some.got in
    let is : got ≡ given_got k oc msg c.args.given =
    if_some (λ got. (k oc : Config) (msg : Message) (reconnect : Bool) → IsBegunLike k c.args.shake reconnect → IsBegunLike oc c.args.shake reconnect
    → (c.args.given ≡ outcome.Message → option_map (λ s. s.now.message) c.args.message ≡ Some msg) → got ≡ given_got k oc msg c.args.given)
    c.in_ok-got.field-0 got c.in-Some.is c.in_ok-got.ensures.got k oc msg reconnect here there carried in
    let number : c.saturating_add-number.result ≡ suc processed = (let added = c.saturating_add-number.ensures in omega (arith, added, low)) in
    let written : c.as_slice.result.now ≡ got_words c.saturating_add-number.result got =
    c.as_slice.ensures.value ∙ c.in_ok-push_got_words.ensures
    ∙ ap (λ (front : List ℕ). front ++ got_words c.saturating_add-number.result got) c.new-text.ensures.items in
    let read : c.as_bytes.result.now ≡ c.args.words.now = c.as_bytes.ensures.value ∙ c.as_str.ensures in
    words_told c.as_slice.result.now c.as_bytes.result.now (got_words (suc processed) (given_got k oc msg c.args.given)) c.args.words.now c.eq.result
    (written ∙ ap₂ got_words number is) read
    (slice_eq-Decides Decides-eqb c.as_slice.result.now c.as_bytes.result.now c.eq.result c.eq.ensures)
