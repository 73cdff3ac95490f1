use Rattle.std.proofs.Common.{take}
use Rattle.hw_net.specs.Writers.{IsListOf}
use Rattle.hw_net.proofs.writers.Writers.renew.Given as goal

abbrev pub invariant-loop-lane : goal.invariant-loop-lane
invariant-loop-lane l = IsListOf l.self (take l.lane-index l.lanes)
