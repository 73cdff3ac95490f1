use Rattle.std.proofs.Common.{◌≡◌, []}
use Rattle.sr_check.specs.Stream.{IsTouchedByBytesAlone}
use Rattle.sr_check.proofs.Inputs.{IsReading}
use Rattle.sr_check.proofs.stream.follow.Given as goal

abbrev pub invariant-loop-splitter : goal.invariant-loop-splitter
invariant-loop-splitter g l = record {
  reading : IsReading l.fn.task l.splitter (g.S.Source.left l.fn.input) (g.S.Source.left l.input) l.left (g.K.Sink.holds l.fn.out) (g.K.Sink.holds l.out);
  source : g.S.Source.faults l.input ≡ g.S.Source.faults l.fn.input;
  sink : g.K.Sink.faults l.out ≡ g.K.Sink.faults l.fn.out;
  touched : IsTouchedByBytesAlone g.K.Sink.holds l.fn.out l.out;
  empty : l.output_buffer.text.items ≡ [];
}

abbrev pub decreases-loop-splitter : goal.decreases-loop-splitter
decreases-loop-splitter g l = l.left
