use Rattle.std.proofs.Common.{◌≡◌, sym, ◌∙◌, arith}
use Rattle.std.proofs.lemmas.Fmt.{decimal_injective}
use Rattle.sr_notation.proofs.reading.parse_version.Goals.{else-version-ge1-via-then-version-ge1+else-version-from, else-version-ge1-via-else-version-ge1}
use Rattle.sr_notation.proofs.reading.parse_version.Goals as goal

pub returns-else-version-ge1-clause-none : goal.returns-else-version-ge1-clause-none
returns-else-version-ge1-clause-none c = λ version is e.
    let found = rw c.in-Some.is at c.in_ok-version.ensures.found in
    let same : c.in-Some.version ≡ version = decimal_injective c.in-Some.version version found.1 (omega (arith, is.1)) (sym found.0 ∙ e) in
    elim c.else-version-ge1.branch [
      | else-version-ge1-via-then-version-ge1+else-version-from w ↦ omega (arith, is.0, is.1, same)
      | else-version-ge1-via-else-version-ge1 w ↦ omega (arith, is.0, is.1, same)
    ]
