use Rattle.std.proofs.Common.{◌≡◌, [], ◌∷◌, Some}
use Rattle.std.proofs.lemmas.Slice.Eq.{strip_prefix_is}
use Rattle.std.proofs.lemmas.Bool.Decides.{Decides-eqb}
use Rattle.sr_notation.proofs.Options.{the_version, the_buffer}
use Rattle.sr_notation.proofs.reading.parse_setting.Goals as goal

pub returns-in-Some-2-clause-found : goal.returns-in-Some-2-clause-found
returns-in-Some-2-clause-found c =
    let cut : c.args.line.now ≡ 118 ∷ 101 ∷ 114 ∷ 115 ∷ 105 ∷ 111 ∷ 110 ∷ 32 ∷ c.in-Some.digits.now =
    strip_prefix_is Decides-eqb c.args.line.now (118 ∷ 101 ∷ 114 ∷ 115 ∷ 105 ∷ 111 ∷ 110 ∷ 32 ∷ []) (Some c.in-Some.digits) c.in-Some.ensures.cases in
    let found = rw c.in-Some-2.is at c.in_ok-version.ensures.found in
    the_version c.args.line.now c.in-Some.digits.now c.in-Some-2.version cut found.0 found.1

pub returns-in-Some-3-clause-found : goal.returns-in-Some-3-clause-found
returns-in-Some-3-clause-found c =
    let cut : c.args.line.now ≡ 98 ∷ 117 ∷ 102 ∷ 102 ∷ 101 ∷ 114 ∷ 32 ∷ c.in-Some-strip_prefix.words.now =
    strip_prefix_is Decides-eqb c.args.line.now (98 ∷ 117 ∷ 102 ∷ 102 ∷ 101 ∷ 114 ∷ 32 ∷ []) (Some c.in-Some-strip_prefix.words) c.in-Some-strip_prefix.ensures.cases in
    let found = rw c.in-Some-3.is at c.in_ok-limits.ensures.found in
    the_buffer c.args.line.now c.in-Some-strip_prefix.words.now c.in-Some-3.limits cut found.0 found.1
