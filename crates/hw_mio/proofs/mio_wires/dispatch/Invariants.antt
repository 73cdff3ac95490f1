use Rattle.std.proofs.Common.{◌≡◌}
use Rattle.hw_mio.proofs.mio_wires.dispatch.Given as goal

abbrev pub invariant-loop-event : goal.invariant-loop-event
invariant-loop-event l = l.table ≡ l.initial.table
