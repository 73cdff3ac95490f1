use Rattle.std.proofs.Common.{rules, ◌≡◌, [], ◌∷◌, Some, None}
use Rattle.std.proofs.lemmas.Slice.Eq.{strip_prefix_is}
use Rattle.std.proofs.lemmas.Bool.Decides.{Decides-eqb}
use Rattle.sr_script.proofs.Calls.{the_done, the_cancel, the_item, item_of, the_call, no_peer}
use Rattle.sr_script.proofs.line.parse_peer_words.Goals as goal

pub returns-in-Some-2-clause-found : goal.returns-in-Some-2-clause-found
returns-in-Some-2-clause-found c =
    let cut : c.args.words.now ≡ 100 ∷ 111 ∷ 110 ∷ 101 ∷ 32 ∷ c.in-Some.call.now =
    strip_prefix_is Decides-eqb c.args.words.now (100 ∷ 111 ∷ 110 ∷ 101 ∷ 32 ∷ []) (Some c.in-Some.call) c.in-Some.ensures.cases in
    let found = rw c.in-Some-2.is at c.in_ok-call.ensures.found in
    (the_done c.args.side c.args.words.now c.in-Some.call.now c.in-Some-2.call cut found.0 found.1, tt)

pub returns-in-Some-3-clause-found : goal.returns-in-Some-3-clause-found
returns-in-Some-3-clause-found c =
    let cut : c.args.words.now ≡ 99 ∷ 97 ∷ 110 ∷ 99 ∷ 101 ∷ 108 ∷ 32 ∷ c.in-Some-strip_prefix.call.now =
    strip_prefix_is Decides-eqb c.args.words.now (99 ∷ 97 ∷ 110 ∷ 99 ∷ 101 ∷ 108 ∷ 32 ∷ []) (Some c.in-Some-strip_prefix.call) c.in-Some-strip_prefix.ensures.cases in
    let found = rw c.in-Some-3.is at c.in_ok-call-2.ensures.found in
    (the_cancel c.args.side c.args.words.now c.in-Some-strip_prefix.call.now c.in-Some-3.call cut found.0 found.1, tt)

pub returns-in-Some-4-clause-found : goal.returns-in-Some-4-clause-found
returns-in-Some-4-clause-found c =
    let cut : c.args.words.now ≡ 105 ∷ 116 ∷ 101 ∷ 109 ∷ 32 ∷ c.in-Some-strip_prefix-2.rest.now =
    strip_prefix_is Decides-eqb c.args.words.now (105 ∷ 116 ∷ 101 ∷ 109 ∷ 32 ∷ []) (Some c.in-Some-strip_prefix-2.rest) c.in-Some-strip_prefix-2.ensures.cases in
    let found = rw c.in-Some-4.is at c.in_ok-call-3.ensures.found in
    (the_item c.words_are_cut_once.ensures c.values_are_trees.ensures c.args.side c.args.words.now c.in-Some-strip_prefix-2.rest.now c.in-Some-4.call c.in-Some-4.value cut found, tt)

pub returns-in-None-3-clause-none : goal.returns-in-None-3-clause-none
returns-in-None-3-clause-none c = λ a is.
    let cut : c.args.words.now ≡ 105 ∷ 116 ∷ 101 ∷ 109 ∷ 32 ∷ c.in-Some-strip_prefix-2.rest.now =
    strip_prefix_is Decides-eqb c.args.words.now (105 ∷ 116 ∷ 101 ∷ 109 ∷ 32 ∷ []) (Some c.in-Some-strip_prefix-2.rest) c.in-Some-strip_prefix-2.ensures.cases in
    let item = item_of c.args.side c.args.words.now c.in-Some-strip_prefix-2.rest.now a cut is in
    let none = rw c.in-None-3.is at c.in_ok-call-3.ensures.none in
    none item.call item.value item.names

pub returns-in-Some-5-clause-found : goal.returns-in-Some-5-clause-found
returns-in-Some-5-clause-found c =
    let found = rw c.in-Some-5.is at c.in_ok-asking.ensures.found in
    (the_call c.args.side c.args.words.now c.in-Some-5.asking found, tt)

pub returns-in-None-4-clause-none : goal.returns-in-None-4-clause-none
returns-in-None-4-clause-none c =
    let none = rw c.in-None-4.is at c.in_ok-asking.ensures.none in
    no_peer c.args.side c.args.words.now
    (search rules)
    (strip_prefix_is Decides-eqb c.args.words.now (100 ∷ 111 ∷ 110 ∷ 101 ∷ 32 ∷ []) None c.in_default.ensures.cases)
    (strip_prefix_is Decides-eqb c.args.words.now (99 ∷ 97 ∷ 110 ∷ 99 ∷ 101 ∷ 108 ∷ 32 ∷ []) None c.in_default-strip_prefix.ensures.cases)
    (strip_prefix_is Decides-eqb c.args.words.now (105 ∷ 116 ∷ 101 ∷ 109 ∷ 32 ∷ []) None c.in_default-strip_prefix-2.ensures.cases)
    none
