use Rattle.std.proofs.Common.{[], ◌∷◌, refl, arith}
use Rattle.hd_trace.proofs.worked.bytes.Goals as goal

pub returns-clause-next : goal.returns-clause-next
returns-clause-next c = record { tells = refl; allowed = record { link = 0; at = refl; unclosed = refl; front = (0 ∷ 0 ∷ [], refl); few = omega arith } }
