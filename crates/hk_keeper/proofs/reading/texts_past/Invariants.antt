use Rattle.std.proofs.Common.{◌≡◌, take, drop, length, min}
use Rattle.hd_rooms.specs.Kept.{texts_of_room}
use Rattle.hk_keeper.proofs.reading.texts_past.Given as goal

abbrev pub invariant-loop-row : goal.invariant-loop-row
invariant-loop-row l = record {
  passed : l.passed ≡ min l.skipped (length (texts_of_room l.room (take l.row-index l.rows)));
  texts : l.texts.items ≡ drop l.skipped (texts_of_room l.room (take l.row-index l.rows));
}
