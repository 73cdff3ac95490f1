use Rattle.std.proofs.Common.{◌+◌, ◌≤◌}
use Rattle.std.specs.HashMap.{spare}
use Rattle.hi_calls.specs.Maps.{BeginsUploads}
use Rattle.hi_calls.proofs.owners.Owners.begin.Given as goal

abbrev pub invariant-loop-which : goal.invariant-loop-which
invariant-loop-which l = record { begun : BeginsUploads l.fn.self l.self l.call l.which; room : l.count ≤ spare l.self.calls + l.which }
