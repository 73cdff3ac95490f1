use Rattle.std.proofs.Common.{List, length, ◌-◌}
use Rattle.hd_trace.specs.declared.trace.TraceLine.{TraceLine}
use Rattle.ha_audit.specs.Reading.{HasPassed}
use Rattle.ha_audit.proofs.trace.parse_lines.Given as goal

abbrev pub invariant-loop-reader : goal.invariant-loop-reader
invariant-loop-reader l = (lines : List TraceLine) × HasPassed l.only l.reader l.text l.head lines

abbrev pub decreases-loop-reader : goal.decreases-loop-reader
decreases-loop-reader l = length l.text - l.reader.at
