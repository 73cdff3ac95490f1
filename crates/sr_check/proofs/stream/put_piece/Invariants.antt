use Rattle.std.proofs.Common.{length, ◌-◌, Option, List, ℕ}
use Rattle.sr_check.specs.Going.{with_output_buffer}
use Rattle.sr_check.proofs.Pieces.{IsPiecewise}
use Rattle.sr_check.proofs.stream.put_piece.Given as goal

abbrev pub invariant-loop-at : goal.invariant-loop-at
invariant-loop-at l = (now : Option (List ℕ)) → IsPiecewise l.fn.task l.fn.splitter l.splitter l.piece l.at (with_output_buffer now l.fn.output_buffer.text.items) (with_output_buffer now l.output_buffer.text.items)

abbrev pub decreases-loop-at : goal.decreases-loop-at
decreases-loop-at l = length l.piece - l.at
