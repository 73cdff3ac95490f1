-- What the lines of a trace come to.
use Rattle.std.specs.Prelude.{List, Option, Some, None}
use Rattle.hd_delivery.specs.Worlds.{Event}
use Rattle.hd_delivery.specs.Bytes.{Wire, ByteStep}
use Rattle.he_wire.specs.Wires.{IsHouseWire}
use Rattle.sr_notation.specs.Words.{got_words}
use Rattle.hd_trace.specs.declared.trace.TraceLine.{TraceLine}
use Rattle.hd_trace.specs.declared.verdict.Verdict.{Verdict}
use Rattle.hd_trace.specs.Traces.{Setup}
use Rattle.hd_trace.specs.Breaking.{BreaksOff}
use Rattle.hd_trace.specs.Verdicts.{IsVerdict}
use Rattle.ha_audit.specs.declared.auditor.Audit.{Audit}
use Rattle.ha_audit.specs.declared.head.Head.{Head}
use Rattle.ha_audit.specs.declared.verdict.Break.{Break}
use Rattle.ha_audit.specs.declared.verdict.Progress.{Progress}
use Rattle.ha_audit.specs.Grammar.{terms_of}
use Rattle.ha_audit.specs.Reading.{TraceText, HasLines}
use Rattle.ha_audit.specs.AuditKeeps.{Keeps}

-- a session that is begun so over this wire, in the words of this project
abbrev pub setup_of : Head → Wire → Setup
setup_of head wire = record { limits = head.limits; terms = terms_of head; wire = wire; words = got_words }

-- ---- the verdict

-- over each wire of this project, of which there is one for each limit, the lines of both ends come to this
abbrev pub ComesTo : Head → List TraceLine → Verdict → Type 0
ComesTo head lines verdict = (wire : Wire) → IsHouseWire head.limits.frame wire → IsVerdict (setup_of head wire) lines verdict

-- these are the lines of the trace, and they come to this
pub record IsAudited (trace : TraceText) (verdict : Verdict) : Type 0 where
  pub lines : List TraceLine
  pub told : HasLines trace lines
  pub comes_to : ComesTo trace.head lines verdict

-- ---- the lines so far

-- over such a wire the lines tell a world, which is kept, or they broke off there
abbrev pub StandsOver : Setup → List TraceLine → Audit → Option Break → Type 0
StandsOver x lines audit None = (w : List (Event ByteStep)) × Keeps x lines audit w
StandsOver x lines audit (Some broken) = BreaksOff x lines broken.line broken.rule

-- so it is over each wire of this project
abbrev pub Stands : Head → List TraceLine → Progress → Type 0
Stands head lines progress = (wire : Wire) → IsHouseWire head.limits.frame wire → StandsOver (setup_of head wire) lines progress.audit progress.broken
