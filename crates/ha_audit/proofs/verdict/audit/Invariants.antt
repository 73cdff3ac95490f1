use Rattle.std.proofs.Common.{List, length, ◌-◌}
use Rattle.hd_trace.specs.declared.trace.TraceLine.{TraceLine}
use Rattle.ha_audit.specs.AuditVerdict.{Stands}
use Rattle.ha_audit.specs.Reading.{HasRead}
use Rattle.ha_audit.proofs.verdict.audit.Given as goal

abbrev pub invariant-loop-reader : goal.invariant-loop-reader
invariant-loop-reader l = (lines : List TraceLine) × (HasRead l.reader l.trace lines × Stands l.trace.head lines l.progress)

abbrev pub decreases-loop-reader : goal.decreases-loop-reader
decreases-loop-reader l = length l.trace.text - l.reader.at
