use Rattle.std.proofs.Common.{◌≡◌, ◌∙◌, false, sym, ap}
use Rattle.std.proofs.lemmas.Bool.{cond-false}
use Rattle.hm_message.specs.Same.{same_text}
use Rattle.hd_calls.specs.Peers.{refusal_text}
use Rattle.hd_calls.specs.Weights.{ending_weight, text_weight}
use Rattle.hj_jobs.specs.Counted.{counted}
use Rattle.hj_jobs.proofs.weight.ending_count.Goals as goal

pub returns-else-eq-clause-exact : goal.returns-else-eq-clause-exact
returns-else-eq-clause-exact c =
    let other : same_text c.in-Error.text refusal_text ≡ false = ap (λ s. same_text s refusal_text) (sym c.as_str.ensures) ∙ (sym c.eq.ensures ∙ c.if-eq.false) in
    c.text_count.ensures ∙ ap counted (sym (ap ending_weight c.in-Error.is ∙ cond-false (same_text c.in-Error.text refusal_text) 0 (text_weight c.in-Error.text) other))
