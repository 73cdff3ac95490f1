use Rattle.std.proofs.Common.{◌≡◌, ◌+◌, ◌<◌, ◌++◌, ℕ, List, length}
use Rattle.hf_split.specs.Cuts.{IsWaiting}
use Rattle.split_bench.specs.Counts.{IsCounted}
use Rattle.split_bench.proofs.tally.add_piece.Given as goal

abbrev pub invariant-loop-left : goal.invariant-loop-left
invariant-loop-left l = record {
  framing : l.splitter.framing ≡ l.fn.splitter.framing;
  waiting : IsWaiting l.splitter.framing l.splitter.most l.splitter.bytes;
  room : length l.splitter.bytes < l.splitter.most + 5;
  counted : (most : ℕ) (stream : List ℕ) → IsCounted most l.fn.splitter l.fn.tally stream →
      (front : List ℕ) × (l.fn.piece ≡ front ++ l.left) × IsCounted most l.splitter l.tally (stream ++ front);
}

abbrev pub decreases-loop-left : goal.decreases-loop-left
decreases-loop-left l = length l.left
