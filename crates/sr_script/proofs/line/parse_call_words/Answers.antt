use Rattle.std.proofs.Common.{List, ℕ, sym, subst}
use Rattle.sr_script.specs.Script.{IsCallWord, NamesCall}
use Rattle.sr_script.proofs.Calls.{wanted_parts, call_wanted, wanted_once}
use Rattle.sr_script.proofs.line.parse_call_words.Goals as goal

pub returns-in_default-clause-none : goal.returns-in_default-clause-none
returns-in_default-clause-none c = λ a wants. let cuts = c.words_are_cut_once.ensures in cuts.no_cut c.args.words.now wants.word wants.rest c.in_default.ensures.none wants.words_are

pub returns-in_default-call_kind-clause-none : goal.returns-in_default-call_kind-clause-none
returns-in_default-call_kind-clause-none c = λ a wants.
    let parts = wanted_parts c.words_are_cut_once.ensures c.args.words.now c.in-Some.word.now c.in-Some.rest.now a (record { word = c.in-Some.ensures.found.0; is = c.in-Some.ensures.found.1 }) wants in
    c.in_default-call_kind.ensures.none a.kind a.uploads (subst (λ (word : List ℕ). IsCallWord word a.kind a.uploads) (sym parts.0) wants.called)

pub returns-in-Some-2-clause-found : goal.returns-in-Some-2-clause-found
returns-in-Some-2-clause-found c =
    let found = rw c.in-Some-2.is at c.in_ok-asking.ensures.found in
    let wants = call_wanted c.args.words.now c.in-Some.word.now c.in-Some.rest.now c.in-Some-call_kind.kind c.in-Some-call_kind.uploads c.in-Some-2.asking
    (record { word = c.in-Some.ensures.found.0; is = c.in-Some.ensures.found.1 }) c.in-Some-call_kind.ensures.found found.0 found.1 found.2 in
    record { holds = wants; only = λ other is. wanted_once c.words_are_cut_once.ensures c.values_are_trees.ensures c.args.words.now other c.in-Some-2.asking is wants }

pub returns-in-None-clause-none : goal.returns-in-None-clause-none
returns-in-None-clause-none c = λ a wants.
    let parts = wanted_parts c.words_are_cut_once.ensures c.args.words.now c.in-Some.word.now c.in-Some.rest.now a (record { word = c.in-Some.ensures.found.0; is = c.in-Some.ensures.found.1 }) wants in
    let none = rw c.in-None.is at c.in_ok-asking.ensures.none in
    none a (subst (λ (xs : List ℕ). NamesCall xs a) (sym parts.1) wants.names)
