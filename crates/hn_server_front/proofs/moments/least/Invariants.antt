use Rattle.hn_server_front.specs.Moments.{IsLeast}
use Rattle.std.proofs.Common.{take}
use Rattle.hn_server_front.proofs.moments.least.Given as goal

abbrev pub invariant-loop-one : goal.invariant-loop-one
invariant-loop-one l = IsLeast (take l.one-index l.fn.waiting) l.least
