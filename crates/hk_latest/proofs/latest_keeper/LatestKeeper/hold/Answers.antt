use Rattle.hk_latest.proofs.Ends.{latest-Fits}
use Rattle.hk_latest.proofs.Changes.{IsIndex-same}
use Rattle.hk_latest.proofs.latest_keeper.LatestKeeper.hold.Goals as goal

pub invariant_of-self-in_err-add : goal.invariant_of-self-in_err-add
invariant_of-self-in_err-add c =
    rw c.reserve.ensures.items (
      c.self.invariant.0,
      IsIndex-same c.self.inside.rooms.by_room c.add.new.self.by_room c.self.inside.rows.items c.self.inside.bytes c.self.invariant.1 c.in_err-add.ensures.unchanged,
    )

pub invariant_of-self-2 : goal.invariant_of-self-2
invariant_of-self-2 c = (latest-Fits c.push_back_reserved.new.self.items _ c.trim-self-inside.ensures.latest, c.trim-self-inside.ensures.index)
