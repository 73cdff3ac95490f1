use Rattle.std.proofs.Common.{take}
use Rattle.std.specs.List.{All}
use Rattle.hw_net.specs.Resting.{IsKnown}
use Rattle.hw_net.proofs.lanes.Lanes.renew_due.Given as goal

abbrev pub invariant-loop-index : goal.invariant-loop-index
invariant-loop-index l = All (IsKnown l.due) (take l.index l.self-inside.items.items)
