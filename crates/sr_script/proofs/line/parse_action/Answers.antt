use Rattle.std.proofs.Common.{◌≡◌, [], ◌∷◌, Some}
use Rattle.std.proofs.lemmas.Slice.Eq.{strip_prefix_is}
use Rattle.std.proofs.lemmas.Bool.Decides.{Decides-eqb}
use Rattle.hd_delivery.specs.declared.vocabulary.Side.TheVariants.{Client, Server}
use Rattle.sr_script.proofs.Grammar.{end_found, end_none, the_accept, the_tick}
use Rattle.sr_script.proofs.line.parse_action.Goals as goal

pub returns-in-Some-clause-found : goal.returns-in-Some-clause-found
returns-in-Some-clause-found c =
    let cut : c.args.line.now ≡ 99 ∷ 32 ∷ c.in-Some.words.now =
    strip_prefix_is Decides-eqb c.args.line.now (99 ∷ 32 ∷ []) (Some c.in-Some.words) c.in-Some.ensures.cases in
    end_found Client c.args.line.now c.in-Some.words.now c.parse_words.result cut c.parse_words.ensures.found

pub returns-in-Some-clause-none : goal.returns-in-Some-clause-none
returns-in-Some-clause-none c =
    let cut : c.args.line.now ≡ 99 ∷ 32 ∷ c.in-Some.words.now =
    strip_prefix_is Decides-eqb c.args.line.now (99 ∷ 32 ∷ []) (Some c.in-Some.words) c.in-Some.ensures.cases in
    end_none Client c.args.line.now c.in-Some.words.now c.parse_words.result cut c.parse_words.ensures.none

pub returns-in-Some-strip_prefix-clause-found : goal.returns-in-Some-strip_prefix-clause-found
returns-in-Some-strip_prefix-clause-found c =
    let cut : c.args.line.now ≡ 115 ∷ 32 ∷ c.in-Some-strip_prefix.words.now =
    strip_prefix_is Decides-eqb c.args.line.now (115 ∷ 32 ∷ []) (Some c.in-Some-strip_prefix.words) c.in-Some-strip_prefix.ensures.cases in
    end_found Server c.args.line.now c.in-Some-strip_prefix.words.now c.parse_words-in-Some-strip_prefix.result cut c.parse_words-in-Some-strip_prefix.ensures.found

pub returns-in-Some-strip_prefix-clause-none : goal.returns-in-Some-strip_prefix-clause-none
returns-in-Some-strip_prefix-clause-none c =
    let cut : c.args.line.now ≡ 115 ∷ 32 ∷ c.in-Some-strip_prefix.words.now =
    strip_prefix_is Decides-eqb c.args.line.now (115 ∷ 32 ∷ []) (Some c.in-Some-strip_prefix.words) c.in-Some-strip_prefix.ensures.cases in
    end_none Server c.args.line.now c.in-Some-strip_prefix.words.now c.parse_words-in-Some-strip_prefix.result cut c.parse_words-in-Some-strip_prefix.ensures.none

pub returns-in-Some-2-clause-found : goal.returns-in-Some-2-clause-found
returns-in-Some-2-clause-found c =
    let cut : c.args.line.now ≡ 97 ∷ 99 ∷ 99 ∷ 101 ∷ 112 ∷ 116 ∷ 32 ∷ c.in-Some-strip_prefix-2.link.now =
    strip_prefix_is Decides-eqb c.args.line.now (97 ∷ 99 ∷ 99 ∷ 101 ∷ 112 ∷ 116 ∷ 32 ∷ []) (Some c.in-Some-strip_prefix-2.link) c.in-Some-strip_prefix-2.ensures.cases in
    let found = rw c.in-Some-2.is at c.in_ok-link.ensures.found in
    (the_accept c.args.line.now c.in-Some-strip_prefix-2.link.now c.in-Some-2.link cut found.0 found.1, tt)

pub returns-in-Some-3-clause-found : goal.returns-in-Some-3-clause-found
returns-in-Some-3-clause-found c =
    let cut : c.args.line.now ≡ 116 ∷ 105 ∷ 99 ∷ 107 ∷ 32 ∷ c.in-Some-strip_prefix-3.now.now =
    strip_prefix_is Decides-eqb c.args.line.now (116 ∷ 105 ∷ 99 ∷ 107 ∷ 32 ∷ []) (Some c.in-Some-strip_prefix-3.now) c.in-Some-strip_prefix-3.ensures.cases in
    let found = rw c.in-Some-3.is at c.in_ok-now.ensures.found in
    (the_tick c.args.line.now c.in-Some-strip_prefix-3.now.now c.in-Some-3.now cut found.0 found.1, tt)
