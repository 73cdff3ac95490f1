use Rattle.std.proofs.Common.{◌≡◌}
use Rattle.hi_calls.specs.Numbering.{ids_after}
use Rattle.hi_calls.proofs.ids.Ids.after.Given as goal

abbrev pub invariant-loop-which : goal.invariant-loop-which
invariant-loop-which l = l.ids.items ≡ ids_after l.self.prefix l.number l.which
