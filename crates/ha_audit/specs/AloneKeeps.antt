-- What an auditor of one end alone keeps of its lines so far: how its state is that of the history which they tell.
use Rattle.std.specs.Prelude.{◌≡◌, ℕ, List, ◌∷◌, Option, Some, None}
use Rattle.hf_split.specs.Held.{Held}
use Rattle.hd_delivery.specs.declared.vocabulary.Side.{Side}
use Rattle.hd_delivery.specs.HistoryLaws.{HistoryFacts}
use Rattle.hd_delivery.specs.Histories.{EndEvent, present_link, was_on, sent_messages, codec_of}
use Rattle.hd_delivery.specs.Worlds.{config}
use Rattle.hd_delivery.specs.Bytes.{ByteStep, IsSoundWire, unread}
use Rattle.hd_trace.specs.declared.trace.Rule.{Rule}
use Rattle.hd_trace.specs.declared.trace.ToldStep.{ToldStep}
use Rattle.hd_trace.specs.Traces.{Setup, clock}
use Rattle.hd_trace.specs.Alone.{frames_alone, MakesAlone, TellHistory}
use Rattle.hd_trace.specs.Breaking.{BreaksHistory}
use Rattle.hd_trace.specs.Laws.{IsToldHistory}
use Rattle.hd_trace.specs.Marks.{marks_of}
use Rattle.hd_trace.specs.ByNumbers.{last_link}
use Rattle.ha_audit.specs.declared.alone.auditor.AuditAlone.{AuditAlone}
use Rattle.ha_audit.specs.declared.auditor.audited_end.AuditedEnd.{AuditedEnd}
use Rattle.ha_audit.specs.AuditState.{AreSent, has_link}
use Rattle.ha_audit.specs.AuditKeeps.{IsBegunSo}
use Rattle.ha_audit.specs.AloneState.{as_kept, HoldsBytes, HasNearNumbers}

-- what is kept of the end of this side, whose history in frames is k
pub record KeepsFrames (x : Setup) (side : Side) (end : AuditedEnd) (splitter : Held) (over : ℕ)
    (h : List ByteStep) (k : List EndEvent) : Type 0 where
  pub marks : end.marks ≡ as_kept (marks_of (config side x.terms) k)
  pub near : HasNearNumbers (marks_of (config side x.terms) k)
  pub sent : AreSent (codec_of (config side x.terms) k) end.sent.items (sent_messages k)
  pub links : (l : ℕ) → has_link end.links l ≡ was_on l k
  pub last : end.last ≡ last_link k
  pub most : splitter.most ≡ x.limits.frame
  pub holds : (l : ℕ) → present_link k ≡ Some l → HoldsBytes splitter over end.marks (unread x.wire (config side x.terms) l h)

-- what is kept of the end of this side, whose history this is
abbrev pub KeepsOne : Setup → Side → AuditedEnd → Held → ℕ → List ByteStep → Type 0
KeepsOne x side end splitter over h = KeepsFrames x side end splitter over h (frames_alone x side h)

-- the lines tell this history, and it is kept
pub record KeepsAlone (x : Setup) (steps : List ToldStep) (a : AuditAlone) (h : List ByteStep) : Type 0 where
  pub begun : IsBegunSo x a.head
  pub tells : TellHistory x a.side steps h
  pub clock_is : a.clock ≡ clock steps
  pub kept : KeepsOne x a.side a.end a.splitter a.over h

-- without a rule the line goes on with a history, which is kept now; else it breaks this rule
abbrev pub IsJudgedAlone : Setup → List ToldStep → ToldStep → List ByteStep → AuditAlone → AuditAlone → Option Rule → Type 0
IsJudgedAlone x steps step h old new None =
    (new.side ≡ old.side) × ((s : ByteStep) × (MakesAlone x old.side h (clock steps) step s × KeepsAlone x (step ∷ steps) new (s ∷ h)))
IsJudgedAlone x steps step h old new (Some rule) = BreaksHistory x old.side steps step h rule

-- so it is of each history that was kept
abbrev pub JudgesAlone : AuditAlone → AuditAlone → ToldStep → Option Rule → Type 0
JudgesAlone old new step verdict = (x : Setup) (steps : List ToldStep) (h : List ByteStep) → KeepsAlone x steps old h
    → IsJudgedAlone x steps step h old new verdict

-- ---- what holds of a history that is kept

-- lines tell it, over readers that are sound
pub record KnownAlone (x : Setup) (side : Side) (now : ℕ) (h : List ByteStep) : Type 0 where
  pub told : IsToldHistory x side now h
  pub sound : IsSoundWire x.limits x.wire
  pub facts : HistoryFacts (config side x.terms) (frames_alone x side h)

-- so is each that is kept
abbrev pub KeptAloneIsKnown : Type 0
KeptAloneIsKnown = (x : Setup) (steps : List ToldStep) (a : AuditAlone) (h : List ByteStep) → KeepsAlone x steps a h
    → KnownAlone x a.side (clock steps) h
