use Rattle.std.proofs.Common.{length}
use Rattle.sr_check.proofs.Following.{IsGoingOnDesk}
use Rattle.sr_check.proofs.stream.put_frames.Given as goal

abbrev pub invariant-loop-at : goal.invariant-loop-at
invariant-loop-at l = IsGoingOnDesk l.fn.task l.fn.splitter l.splitter l.fn.output_buffer.text.items l.output_buffer.text.items

abbrev pub decreases-loop-at : goal.decreases-loop-at
decreases-loop-at l = length l.splitter.bytes
