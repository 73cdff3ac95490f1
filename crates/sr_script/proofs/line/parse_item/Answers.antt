use Rattle.std.proofs.Common.{◌≡◌, List, Ok, ℕ, sym, subst}
use Rattle.std.specs.Fmt.{decimal}
use Rattle.hv_value.specs.View.{tree}
use Rattle.hv_json.specs.Reading.{reading}
use Rattle.sr_script.proofs.Calls.{item_parts}
use Rattle.sr_script.proofs.line.parse_item.Goals as goal

pub returns-in_default-clause-none : goal.returns-in_default-clause-none
returns-in_default-clause-none c = λ call value names. let cuts = c.words_are_cut_once.ensures in cuts.no_cut c.args.words.now (decimal call) names.value_text c.in_default.ensures.none names.words_are

pub returns-in_default-2-clause-none : goal.returns-in_default-2-clause-none
returns-in_default-2-clause-none c = λ call value names.
    let parts = item_parts c.words_are_cut_once.ensures c.args.words.now c.in-Some.call.now c.in-Some.text.now call value (record { word = c.in-Some.ensures.found.0; is = c.in-Some.ensures.found.1 }) names in
    let none = rw c.in_default-2.is at c.in_ok-call.ensures.none in
    none call names.short parts.0

pub returns-in-None-clause-none : goal.returns-in-None-clause-none
returns-in-None-clause-none c = λ call value names.
    let parts = item_parts c.words_are_cut_once.ensures c.args.words.now c.in-Some.call.now c.in-Some.text.now call value (record { word = c.in-Some.ensures.found.0; is = c.in-Some.ensures.found.1 }) names in
    let none = rw c.in-None.is at c.in_ok-value.ensures.none in
    none (tree value) (subst (λ (xs : List ℕ). reading xs ≡ Ok (tree value)) (sym parts.1) names.value_is)
