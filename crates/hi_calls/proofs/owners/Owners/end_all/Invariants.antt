use Rattle.hi_calls.specs.Maps.{EndsUploads}
use Rattle.hi_calls.proofs.owners.Owners.end_all.Given as goal

abbrev pub invariant-loop-which : goal.invariant-loop-which
invariant-loop-which l = EndsUploads l.fn.self l.self l.call l.which
