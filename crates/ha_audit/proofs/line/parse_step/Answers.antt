use Rattle.std.proofs.Common.{◌≡◌, ◌++◌, ◌<◌, ◌^◌, ℕ, List, Some, codes, ◌∙◌, ap, subst}
use Rattle.std.specs.Fmt.{decimal}
use Rattle.std.proofs.lemmas.Bool.Decides.{Decides-eqb}
use Rattle.std.proofs.lemmas.Slice.Eq.{strip_prefix_is}
use Rattle.hm_message.specs.declared.message.Message.{Message}
use Rattle.hm_json.specs.Frame.{frame_of}
use Rattle.hd_trace.specs.declared.trace.ToldStep.{ToldStep}
use Rattle.hd_trace.specs.declared.trace.ToldStep.TheVariants.{Send, Take, Tick}
use Rattle.ha_audit.specs.Grammar.{AreWords, HasLine, HasText, IsOneLine, step_words}
use Rattle.ha_audit.proofs.Lines.{rest_line}
use Rattle.ha_audit.proofs.Once.{told_step}
use Rattle.ha_audit.proofs.line.parse_step.Goals as goal

pub returns-in-Some-strip_prefix-3-clause-found : goal.returns-in-Some-strip_prefix-3-clause-found
returns-in-Some-strip_prefix-3-clause-found c =
    let cut : c.args.words.now ≡ codes "sent " ++ c.in-Some-strip_prefix-3.frame.now =
    strip_prefix_is Decides-eqb c.args.words.now (codes "sent ") (Some c.in-Some-strip_prefix-3.frame) c.in-Some-strip_prefix-3.ensures.cases in
    told_step (λ (x : Message). (c.in-Some-strip_prefix-3.frame.now ≡ frame_of x) × HasText x) (λ (step : ToldStep). (c.args.words.now ≡ step_words step) × HasLine step)
    (λ (x : Message). Send x) c.in_ok-parse_message.field-0 c.map-in-Some-strip_prefix-3.result c.map-in-Some-strip_prefix-3.ensures.cases
    (λ x has. (cut ∙ ap (λ (r : List ℕ). codes "sent " ++ r) has.0, has.1)) c.in_ok-parse_message.ensures.found

pub parse_told-requires : goal.parse_told-requires
parse_told-requires c =
    let cut : c.args.words.now ≡ codes "took " ++ c.in-Some-strip_prefix-4.told.now =
    strip_prefix_is Decides-eqb c.args.words.now (codes "took ") (Some c.in-Some-strip_prefix-4.told) c.in-Some-strip_prefix-4.ensures.cases in
    rest_line (codes "took ") c.in-Some-strip_prefix-4.told.now (subst (λ (w : List ℕ). IsOneLine w) cut c.requires)

pub returns-in-Some-strip_prefix-4-clause-found : goal.returns-in-Some-strip_prefix-4-clause-found
returns-in-Some-strip_prefix-4-clause-found c =
    let cut : c.args.words.now ≡ codes "took " ++ c.in-Some-strip_prefix-4.told.now =
    strip_prefix_is Decides-eqb c.args.words.now (codes "took ") (Some c.in-Some-strip_prefix-4.told) c.in-Some-strip_prefix-4.ensures.cases in
    told_step (λ (x : List ℕ). (c.in-Some-strip_prefix-4.told.now ≡ x) × AreWords x) (λ (step : ToldStep). (c.args.words.now ≡ step_words step) × HasLine step)
    (λ (x : List ℕ). Take x) c.in_ok-parse_told.field-0 c.map-in-Some-strip_prefix-4.result c.map-in-Some-strip_prefix-4.ensures.cases
    (λ x has. (cut ∙ ap (λ (r : List ℕ). codes "took " ++ r) has.0, has.1)) c.in_ok-parse_told.ensures.found

pub returns-in-Some-strip_prefix-5-clause-found : goal.returns-in-Some-strip_prefix-5-clause-found
returns-in-Some-strip_prefix-5-clause-found c =
    let cut : c.args.words.now ≡ codes "tick " ++ c.in-Some-strip_prefix-5.now.now =
    strip_prefix_is Decides-eqb c.args.words.now (codes "tick ") (Some c.in-Some-strip_prefix-5.now) c.in-Some-strip_prefix-5.ensures.cases in
    told_step (λ (x : ℕ). (c.in-Some-strip_prefix-5.now.now ≡ decimal x) × (x < 2 ^ 64)) (λ (step : ToldStep). (c.args.words.now ≡ step_words step) × HasLine step)
    (λ (x : ℕ). Tick x) c.in_ok-parse_number-2.field-0 c.map-in-Some-strip_prefix-5.result c.map-in-Some-strip_prefix-5.ensures.cases
    (λ x has. (cut ∙ ap (λ (r : List ℕ). codes "tick " ++ r) has.0, has.1)) c.in_ok-parse_number-2.ensures.found
