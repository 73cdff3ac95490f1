-- What the lines of one end alone come to.
use Rattle.std.specs.Prelude.{◌≡◌, List, Option, Some, None}
use Rattle.hd_delivery.specs.declared.vocabulary.Side.{Side}
use Rattle.hd_delivery.specs.Bytes.{Wire, ByteStep}
use Rattle.he_wire.specs.Wires.{IsHouseWire}
use Rattle.hd_trace.specs.declared.trace.ToldStep.{ToldStep}
use Rattle.hd_trace.specs.declared.trace.TraceLine.{TraceLine}
use Rattle.hd_trace.specs.declared.verdict.VerdictAlone.{VerdictAlone}
use Rattle.hd_trace.specs.Traces.{Setup, steps_of}
use Rattle.hd_trace.specs.Breaking.{BreaksOffAlone}
use Rattle.hd_trace.specs.Verdicts.{IsVerdictAlone}
use Rattle.ha_audit.specs.declared.alone.auditor.AuditAlone.{AuditAlone}
use Rattle.ha_audit.specs.declared.verdict.Break.{Break}
use Rattle.ha_audit.specs.declared.alone.ProgressAlone.{ProgressAlone}
use Rattle.ha_audit.specs.declared.head.Head.{Head}
use Rattle.ha_audit.specs.AuditVerdict.{setup_of}
use Rattle.ha_audit.specs.Reading.{TraceText, HasLines}
use Rattle.ha_audit.specs.AloneKeeps.{KeepsAlone}

-- over each wire of this project the steps of this side come to this
abbrev pub ComesToAlone : Head → Side → List ToldStep → VerdictAlone → Type 0
ComesToAlone head side steps verdict = (wire : Wire) → IsHouseWire head.limits.frame wire → IsVerdictAlone (setup_of head wire) side steps verdict

-- these are the lines of the trace of this side, and they come to this
pub record IsAuditedAlone (side : Side) (trace : TraceText) (verdict : VerdictAlone) : Type 0 where
  pub lines : List TraceLine
  pub told : HasLines trace lines
  pub comes_to : ComesToAlone trace.head side (steps_of lines) verdict

-- over such a wire the steps tell a history, which is kept, or they broke off there
abbrev pub StandsAloneOver : Setup → Side → List ToldStep → AuditAlone → Option Break → Type 0
StandsAloneOver x side steps audit None = (audit.side ≡ side) × ((h : List ByteStep) × KeepsAlone x steps audit h)
StandsAloneOver x side steps audit (Some broken) = BreaksOffAlone x side steps broken.line broken.rule

-- so it is over each wire of this project
abbrev pub StandsAlone : Head → Side → List ToldStep → ProgressAlone → Type 0
StandsAlone head side steps progress = (wire : Wire) → IsHouseWire head.limits.frame wire
    → StandsAloneOver (setup_of head wire) side steps progress.audit progress.broken
