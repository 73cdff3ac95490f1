use Rattle.std.proofs.Common.{◌<◌, refl, arith}
use Rattle.hd_trace.specs.Breaking.{rank}
use Rattle.hd_trace.proofs.worked.alone.Goals as goal

pub returns-clause-lower : goal.returns-clause-lower
returns-clause-lower c = (
  λ m. let h : 5 < 3 = m.1 5 refl in absurd (omega (arith, h)),
  λ q less b. let h : rank q < 0 = less in absurd (omega (arith, h)),
)

pub returns-clause-fed : goal.returns-clause-fed
returns-clause-fed c = record { tells = refl; allowed = (record { link = 5; at = refl; unclosed = refl; few = omega arith }, tt) }
