use Rattle.std.proofs.Common.{◌≡◌, None}
use Rattle.std.specs.HashMap.{keys}
use Rattle.hi_calls.specs.Maps.{least_with}
use Rattle.hi_calls.proofs.calls.Calls.least.Given as goal

abbrev pub invariant-loop-number : goal.invariant-loop-number
invariant-loop-number l = least_with l.least l.number-iterator ≡ least_with None (keys l.self.calls)
