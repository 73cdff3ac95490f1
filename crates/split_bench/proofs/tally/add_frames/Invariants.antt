use Rattle.std.proofs.Common.{◌≡◌, ℕ, List, length}
use Rattle.split_bench.specs.Counts.{IsCounted}
use Rattle.split_bench.proofs.tally.add_frames.Given as goal

abbrev pub invariant-loop-frame : goal.invariant-loop-frame
invariant-loop-frame l = record {
  framing : l.splitter.framing ≡ l.fn.splitter.framing;
  counted : (most : ℕ) (stream : List ℕ) → IsCounted most l.fn.splitter l.fn.tally stream → IsCounted most l.splitter l.tally stream;
}

abbrev pub decreases-loop-frame : goal.decreases-loop-frame
decreases-loop-frame l = length l.splitter.bytes
