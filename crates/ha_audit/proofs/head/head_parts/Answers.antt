use Rattle.std.proofs.Common.{◌≡◌, ◌++◌, ◌∷◌, List, ℕ, Some, codes, ap, ◌∙◌}
use Rattle.std.proofs.lemmas.Slice.Eq.{strip_prefix_is}
use Rattle.std.proofs.lemmas.Bool.Decides.{Decides-eqb}
use Rattle.ha_audit.proofs.Once.{if_none, no_codec, no_switch, no_version}
use Rattle.ha_audit.proofs.head.head_parts.Goals as goal

pub returns-in_err-codec-clause-none : goal.returns-in_err-codec-clause-none
returns-in_err-codec-clause-none c =
    let cut : c.args.words.now ≡ codes "trace " ++ c.in_ok-rest.rest.now =
    strip_prefix_is Decides-eqb c.args.words.now (codes "trace ") (Some c.in_ok-rest.rest) c.in_ok-rest.ensures.cases in
    if_none c.from_residual-in_err-codec.result
    (λ head is e. no_codec c.words_are_cut_once.ensures c.args.words.now c.in_ok-rest.rest.now head cut c.in_err-codec.ensures.none e)

pub returns-in_err-version-clause-none : goal.returns-in_err-version-clause-none
returns-in_err-version-clause-none c =
    let cut : c.args.words.now ≡ codes "trace " ++ c.in_ok-rest.rest.now =
    strip_prefix_is Decides-eqb c.args.words.now (codes "trace ") (Some c.in_ok-rest.rest) c.in_ok-rest.ensures.cases in
    let first = c.in_ok-codec.ensures.found in
    if_none c.from_residual-in_err-version.result
    (λ head is e. no_version c.words_are_cut_once.ensures c.args.words.now c.in_ok-codec.codec.now c.in_ok-codec.rest.now head
    (cut ∙ ap (λ (r : List ℕ). codes "trace " ++ r) first.1) first.0 c.in_err-version.ensures.none e)

pub returns-in_err-switch-clause-none : goal.returns-in_err-switch-clause-none
returns-in_err-switch-clause-none c =
    let cut : c.args.words.now ≡ codes "trace " ++ c.in_ok-rest.rest.now =
    strip_prefix_is Decides-eqb c.args.words.now (codes "trace ") (Some c.in_ok-rest.rest) c.in_ok-rest.ensures.cases in
    let first = c.in_ok-codec.ensures.found in
    let second = c.in_ok-version.ensures.found in
    if_none c.from_residual-in_err-switch.result
    (λ head is e. no_switch c.words_are_cut_once.ensures c.args.words.now c.in_ok-codec.codec.now c.in_ok-version.version.now c.in_ok-version.rest.now head is
    (cut ∙ ap (λ (r : List ℕ). codes "trace " ++ r) (first.1 ∙ ap (λ (r : List ℕ). c.in_ok-codec.codec.now ++ 32 ∷ r) second.1))
    first.0 second.0 c.in_err-switch.ensures.none e)

pub returns-clause-found : goal.returns-clause-found
returns-clause-found c =
    let cut : c.args.words.now ≡ codes "trace " ++ c.in_ok-rest.rest.now =
    strip_prefix_is Decides-eqb c.args.words.now (codes "trace ") (Some c.in_ok-rest.rest) c.in_ok-rest.ensures.cases in
    let first = c.in_ok-codec.ensures.found in
    let second = c.in_ok-version.ensures.found in
    let third = c.in_ok-switch.ensures.found in (
      first.0,
      second.0,
      third.0,
      cut ∙ ap (λ (r : List ℕ). codes "trace " ++ r)
          (first.1 ∙ ap (λ (r : List ℕ). c.in_ok-codec.codec.now ++ 32 ∷ r) (second.1 ∙ ap (λ (r : List ℕ). c.in_ok-version.version.now ++ 32 ∷ r) third.1)),
    )
