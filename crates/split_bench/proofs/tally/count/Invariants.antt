use Rattle.std.proofs.Common.{◌≡◌, ◌++◌, ℕ, List, Some}
use Rattle.hf_split.specs.declared.framing.Framing.TheVariants.{Record}
use Rattle.split_bench.specs.Counts.{IsCounted}
use Rattle.split_bench.proofs.tally.count.Given as goal

-- what was read is counted, and the rest of the input is left
abbrev pub invariant-loop : goal.invariant-loop
invariant-loop g l = record {
  framing : l.splitter.framing ≡ Record;
  counted : (bytes : List ℕ) → g.R.Read.remaining l.fn.input ≡ Some bytes →
      (read : List ℕ) × (left : List ℕ) × (bytes ≡ read ++ left) × (g.R.Read.remaining l.input ≡ Some left) × IsCounted 32768 l.splitter l.tally read;
}
