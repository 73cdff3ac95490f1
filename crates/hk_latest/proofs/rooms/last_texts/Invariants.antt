use Rattle.std.proofs.Common.{◌≡◌, ◌+◌, ◌++◌, length, reverse}
use Rattle.hk_latest.proofs.Walks.{texts_of}
use Rattle.hk_latest.proofs.rooms.last_texts.Given as goal

abbrev pub invariant-loop-i : goal.invariant-loop-i
invariant-loop-i l = record {
  read : texts_of l.before ++ reverse l.texts.items ≡ texts_of l.rows;
  left : length l.before + l._i ≡ length l.rows;
}
