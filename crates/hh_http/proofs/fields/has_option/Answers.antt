use Rattle.std.proofs.Common.{◌==◌, ◌∙◌, rules, tests}
use Rattle.std.proofs.lemmas.Iterator.Search.{any_from_yields_List}
use Rattle.std.proofs.lemmas.Iterator.Splits.{YieldsList-from_slice_split}
use Rattle.httparse.specs.Ascii.{comma}
use Rattle.httparse.specs.Grammar.{trim_ows}
use Rattle.http1.specs.Text.{eq_ignore_case}
use Rattle.hh_http.proofs.FieldFacts.{has_option-by_pieces}
use Rattle.hh_http.proofs.fields.has_option.Goals as goal

pub returns : goal.returns
returns c =
    let value = c.args.value.now in
    any_from_yields_List (λ e. eq_ignore_case (trim_ows e) c.args.option.now) _ _ _ c.any.ensures.ran
    (YieldsList-from_slice_split _ (λ b. b == comma) value c.split.ensures.rest c.split.ensures.done c.split.ensures.closure (λ x b q k. search (rules, tests)))
    (λ x b q k. search (rules, tests))
    ∙ has_option-by_pieces c.args.option.now value
