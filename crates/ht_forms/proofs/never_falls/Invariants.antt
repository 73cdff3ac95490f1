use Rattle.std.proofs.Common.{ℕ, length}
use Rattle.hw_door.specs.Memory.{NeverFalls}
use Rattle.ht_forms.proofs.never_falls.Given as goal

abbrev pub invariant-loop-rest : goal.invariant-loop-rest
invariant-loop-rest l = NeverFalls l.last l.rest → NeverFalls 0 l.fn.heard

abbrev pub decreases-loop-rest : goal.decreases-loop-rest
decreases-loop-rest l = length l.rest
