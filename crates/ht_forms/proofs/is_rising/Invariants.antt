use Rattle.std.proofs.Common.{ℕ, length}
use Rattle.hw_door.specs.Wires.{IsRising}
use Rattle.ht_forms.proofs.is_rising.Given as goal

abbrev pub invariant-loop-rest : goal.invariant-loop-rest
invariant-loop-rest l = IsRising l.last l.rest → IsRising 0 l.fn.moments

abbrev pub decreases-loop-rest : goal.decreases-loop-rest
decreases-loop-rest l = length l.rest
