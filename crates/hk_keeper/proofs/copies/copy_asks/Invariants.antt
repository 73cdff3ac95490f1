use Rattle.std.proofs.Common.{◌≡◌, take}
use Rattle.hk_keeper.proofs.copies.copy_asks.Given as goal

abbrev pub invariant-loop-ask : goal.invariant-loop-ask
invariant-loop-ask l = l.copies.items ≡ take l.ask-index l.asks
