use Rattle.std.proofs.Common.{◌≡◌, List, Ok, ℕ, sym, subst}
use Rattle.std.specs.Str.{IsUtf8}
use Rattle.hv_value.specs.Tree.{list, trees}
use Rattle.hv_value.specs.View.{tree}
use Rattle.hv_json.specs.Reading.{reading}
use Rattle.sr_script.proofs.Calls.{named_parts, one_reading}
use Rattle.sr_script.proofs.line.parse_call.Goals as goal

pub returns-in_default-clause-none : goal.returns-in_default-clause-none
returns-in_default-clause-none c = λ a names. let cuts = c.words_are_cut_once.ensures in cuts.no_cut c.args.words.now a.target names.list_text c.in_default.ensures.none names.words_are

pub returns-in_default-from_utf8-clause-none : goal.returns-in_default-from_utf8-clause-none
returns-in_default-from_utf8-clause-none c = λ a names.
    let parts = named_parts c.words_are_cut_once.ensures c.args.words.now c.in-Some.target.now c.in-Some.text.now a (record { word = c.in-Some.ensures.found.0; is = c.in-Some.ensures.found.1 }) names in
    c.in_default-from_utf8.ensures.cases.0 (subst IsUtf8 (sym parts.0) names.target.utf8)

pub returns-in_default-2-clause-none : goal.returns-in_default-2-clause-none
returns-in_default-2-clause-none c = λ a names.
    let parts = named_parts c.words_are_cut_once.ensures c.args.words.now c.in-Some.target.now c.in-Some.text.now a (record { word = c.in-Some.ensures.found.0; is = c.in-Some.ensures.found.1 }) names in
    let none = rw c.in_default-2.is at c.in_ok-value.ensures.none in
    none (list (trees a.arguments)) (subst (λ (xs : List ℕ). reading xs ≡ Ok (list (trees a.arguments))) (sym parts.1) names.arguments)

pub returns-in_default-items_of-clause-none : goal.returns-in_default-items_of-clause-none
returns-in_default-items_of-clause-none c = λ a names.
    let parts = named_parts c.words_are_cut_once.ensures c.args.words.now c.in-Some.target.now c.in-Some.text.now a (record { word = c.in-Some.ensures.found.0; is = c.in-Some.ensures.found.1 }) names in
    let read = rw c.in-Some-2.is at c.in_ok-value.ensures.found in
    c.in_default-items_of.ensures.none a.arguments
    (one_reading c.in-Some.text.now names.list_text (tree c.in-Some-2.value) (list (trees a.arguments)) parts.1 read names.arguments)
