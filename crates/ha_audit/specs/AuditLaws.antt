-- What holds of a world that an auditor keeps.
use Rattle.std.specs.Prelude.{List}
use Rattle.hd_delivery.specs.declared.vocabulary.Side.{Side}
use Rattle.hd_delivery.specs.HistoryLaws.{HistoryFacts}
use Rattle.hd_delivery.specs.Worlds.{config, Event}
use Rattle.hd_delivery.specs.Bytes.{ByteStep, IsSoundWire}
use Rattle.hd_trace.specs.declared.trace.TraceLine.{TraceLine}
use Rattle.hd_trace.specs.Traces.{Setup, clock, steps_of, frames_beside}
use Rattle.hd_trace.specs.Laws.{IsToldWorld}
use Rattle.hd_trace.specs.ByNumbers.{IsFaithfulWorld}
use Rattle.ha_audit.specs.declared.auditor.Audit.{Audit}
use Rattle.ha_audit.specs.AuditKeeps.{Keeps}

-- a world that these lines tell, over readers that are sound, and faithful to what is sent in it
pub record Known (x : Setup) (lines : List TraceLine) (w : List (Event ByteStep)) : Type 0 where
  pub told : IsToldWorld x (clock (steps_of lines)) w
  pub sound : IsSoundWire x.limits x.wire
  pub faithful : IsFaithfulWorld x w
  pub facts : (side : Side) → HistoryFacts (config side x.terms) (frames_beside x side w)

-- so is each that is kept
abbrev pub KeptIsKnown : Type 0
KeptIsKnown = (x : Setup) (lines : List TraceLine) (a : Audit) (w : List (Event ByteStep)) → Keeps x lines a w → Known x lines w
