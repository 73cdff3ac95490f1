use Rattle.std.proofs.Common.{◌≡◌, length}
use Rattle.hk_latest.specs.Latest.{latest}
use Rattle.hk_latest.specs.Rooms.{IsIndex}
use Rattle.hk_latest.proofs.latest_keeper.trim.Given as goal

abbrev pub invariant-loop-rows : goal.invariant-loop-rows
invariant-loop-rows l = record {
  index : IsIndex l.rooms.by_room l.rows.items l.left;
  same : latest l.rows.items ≡ latest l.initial.rows.items;
}

abbrev pub decreases-loop-rows : goal.decreases-loop-rows
decreases-loop-rows l = length l.rows.items
