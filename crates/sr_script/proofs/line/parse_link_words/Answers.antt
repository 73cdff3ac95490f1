use Rattle.std.proofs.Common.{◌≡◌, [], ◌∷◌, Some}
use Rattle.std.proofs.lemmas.Slice.Eq.{strip_prefix_is}
use Rattle.std.proofs.lemmas.Bool.Decides.{Decides-eqb}
use Rattle.sr_script.proofs.Grammar.{the_write, the_read, the_send}
use Rattle.sr_script.proofs.line.parse_link_words.Goals as goal

pub returns-in-Some-2-clause-found : goal.returns-in-Some-2-clause-found
returns-in-Some-2-clause-found c =
    let cut : c.args.words.now ≡ 119 ∷ 114 ∷ 105 ∷ 116 ∷ 101 ∷ 32 ∷ c.in-Some.count.now =
    strip_prefix_is Decides-eqb c.args.words.now (119 ∷ 114 ∷ 105 ∷ 116 ∷ 101 ∷ 32 ∷ []) (Some c.in-Some.count) c.in-Some.ensures.cases in
    let found = rw c.in-Some-2.is at c.in_ok-count.ensures.found in
    (the_write c.args.side c.args.words.now c.in-Some.count.now c.in-Some-2.count cut found.0 found.1, tt)

pub returns-in-Some-3-clause-found : goal.returns-in-Some-3-clause-found
returns-in-Some-3-clause-found c =
    let cut : c.args.words.now ≡ 114 ∷ 101 ∷ 97 ∷ 100 ∷ 32 ∷ c.in-Some-strip_prefix.count.now =
    strip_prefix_is Decides-eqb c.args.words.now (114 ∷ 101 ∷ 97 ∷ 100 ∷ 32 ∷ []) (Some c.in-Some-strip_prefix.count) c.in-Some-strip_prefix.ensures.cases in
    let found = rw c.in-Some-3.is at c.in_ok-count-2.ensures.found in
    (the_read c.args.side c.args.words.now c.in-Some-strip_prefix.count.now c.in-Some-3.count cut found.0 found.1, tt)

pub returns-in-Some-4-clause-found : goal.returns-in-Some-4-clause-found
returns-in-Some-4-clause-found c =
    let cut : c.args.words.now ≡ 115 ∷ 101 ∷ 110 ∷ 100 ∷ 32 ∷ c.in-Some-strip_prefix-2.frame.now =
    strip_prefix_is Decides-eqb c.args.words.now (115 ∷ 101 ∷ 110 ∷ 100 ∷ 32 ∷ []) (Some c.in-Some-strip_prefix-2.frame) c.in-Some-strip_prefix-2.ensures.cases in
    let found = rw c.in-Some-4.is at c.in_ok-message.ensures.found in
    (the_send c.args.side c.args.words.now c.in-Some-strip_prefix-2.frame.now c.in-Some-4.message cut found.0 found.1, found.2)
