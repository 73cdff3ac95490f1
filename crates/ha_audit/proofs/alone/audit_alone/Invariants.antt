use Rattle.std.proofs.Common.{◌≡◌, List, Some, length, ◌-◌}
use Rattle.hd_delivery.specs.declared.vocabulary.Side.{Side}
use Rattle.hd_trace.specs.declared.trace.TraceLine.{TraceLine}
use Rattle.hd_trace.specs.Traces.{steps_of}
use Rattle.ha_audit.specs.AloneVerdict.{StandsAlone}
use Rattle.ha_audit.specs.Reading.{HasRead}
use Rattle.ha_audit.proofs.alone.audit_alone.Given as goal

abbrev pub invariant-loop-reader : goal.invariant-loop-reader
invariant-loop-reader l =
    (lines : List TraceLine) ×
    (HasRead l.reader l.trace lines × ((side : Side) → l.trace.only ≡ Some side → StandsAlone l.trace.head side (steps_of lines) l.progress))

abbrev pub decreases-loop-reader : goal.decreases-loop-reader
decreases-loop-reader l = length l.trace.text - l.reader.at
