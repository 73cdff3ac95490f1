use Rattle.std.proofs.Common.{refl}
use Rattle.hk_latest.proofs.Ends.{Fits-nil}
use Rattle.hk_latest.proofs.latest_keeper.LatestKeeper.start.Goals as goal

pub invariant_of-result : goal.invariant_of-result
invariant_of-result c = rw c.new.ensures.items (Fits-nil, record { by_room = λ room. c.new-2.ensures room; weighed = refl })
