-- What an auditor keeps of the lines so far: how its state is that of the world which they tell.
use Rattle.std.specs.Prelude.{◌≡◌, ℕ, List, ◌∷◌, length, Option, Some, None}
use Rattle.hs_shake.specs.Requests.{IsVersion}
use Rattle.hd_delivery.specs.declared.vocabulary.Side.{Side}
use Rattle.hd_delivery.specs.declared.vocabulary.Side.TheVariants.{Client, Server}
use Rattle.hd_delivery.specs.Bounds.{AreLimits}
use Rattle.hd_delivery.specs.Histories.{EndEvent, present_link, was_on, lent_frames, taken_count, sent_messages, codec_of}
use Rattle.hd_delivery.specs.Worlds.{config, codec_at, version_at, Event}
use Rattle.hd_delivery.specs.Bytes.{ByteStep, bytes_on, in_frames}
use Rattle.hd_delivery.specs.Sides.{by, history}
use Rattle.he_wire.specs.Wires.{IsHouseWire}
use Rattle.sr_notation.specs.Words.{got_words}
use Rattle.hd_trace.specs.declared.trace.Rule.{Rule}
use Rattle.hd_trace.specs.declared.trace.TraceLine.{TraceLine}
use Rattle.hd_trace.specs.Traces.{Setup, clock, steps_of, MakesAt, TellWorld}
use Rattle.hd_trace.specs.Breaking.{BreaksWorld}
use Rattle.hd_trace.specs.Marks.{marks_of}
use Rattle.hd_trace.specs.ByNumbers.{last_link}
use Rattle.ha_audit.specs.declared.auditor.Audit.{Audit}
use Rattle.ha_audit.specs.declared.auditor.audited_end.AuditedEnd.{AuditedEnd}
use Rattle.ha_audit.specs.declared.head.Head.{Head}
use Rattle.ha_audit.specs.AuditState.{AreSent, said_on, has_link, IsSaidOn}

-- ---- how a session is begun

-- both ends are begun as the head says, over a wire of this project, and what is taken is told in its words
pub record IsBegunSo (x : Setup) (head : Head) : Type 0 where
  pub limits : x.limits ≡ head.limits
  pub codec : (side : Side) → codec_at side x.terms ≡ head.codec
  pub version : (side : Side) → version_at side x.terms ≡ head.version
  pub reconnect : x.terms.reconnect ≡ head.reconnect
  pub words : x.words ≡ got_words
  pub is_wire : IsHouseWire x.limits.frame x.wire
  pub in_range : AreLimits x.limits
  pub is_version : IsVersion x.terms.version

-- ---- one end

-- what is kept of an end's link is how many bytes of it the end was fed, and how many of its frames it dealt with
pub record IsRead (end : AuditedEnd) (h : List ByteStep) (k : List EndEvent) (l : ℕ) : Type 0 where
  pub fed : end.fed ≡ length (bytes_on l h)
  pub taken : end.taken ≡ taken_count l k

-- what is kept of the end of this side, whose history in frames is k
pub record KeepsFrames (x : Setup) (side : Side) (end : AuditedEnd) (h : List ByteStep) (k : List EndEvent) : Type 0 where
  pub marks : end.marks ≡ marks_of (config side x.terms) k
  pub codec : codec_of (config side x.terms) k ≡ x.terms.codec
  pub sent : AreSent x.terms.codec end.sent.items (sent_messages k)
  pub links : (l : ℕ) → has_link end.links l ≡ was_on l k
  pub said : (l : ℕ) → IsSaidOn (x.wire.spell x.terms.codec) (config side x.terms) (sent_messages k) (said_on end.links l) (lent_frames l k)
  pub last : end.last ≡ last_link k
  pub read : (l : ℕ) → present_link k ≡ Some l → IsRead end h k l

-- what is kept of the end of this side, whose history this is
abbrev pub KeepsEnd : Setup → Side → AuditedEnd → List ByteStep → Type 0
KeepsEnd x side end h = KeepsFrames x side end h (in_frames x.wire (config side x.terms) h)

-- ---- both ends

-- what is kept of the end of a side
abbrev pub end_of : Side → Audit → AuditedEnd
end_of Client a = a.client
end_of Server a = a.server

-- the lines tell this world, and it is kept
pub record Keeps (x : Setup) (lines : List TraceLine) (a : Audit) (w : List (Event ByteStep)) : Type 0 where
  pub begun : IsBegunSo x a.head
  pub tells : TellWorld x lines w
  pub clock_is : a.clock ≡ clock (steps_of lines)
  pub ends : (side : Side) → KeepsEnd x side (end_of side a) (history side w)

-- ---- one line more

-- without a rule the line goes on with a world, which is kept now; else it breaks this rule
abbrev pub IsJudged : Setup → List TraceLine → TraceLine → List (Event ByteStep) → Audit → Option Rule → Type 0
IsJudged x lines line w new None =
    (s : ByteStep) × (MakesAt x line.side w (clock (steps_of lines)) line.step s × Keeps x (line ∷ lines) new (by line.side s ∷ w))
IsJudged x lines line w new (Some rule) = BreaksWorld x lines line w rule

-- so it is of each world that was kept
abbrev pub Judges : Audit → Audit → TraceLine → Option Rule → Type 0
Judges old new line verdict = (x : Setup) (lines : List TraceLine) (w : List (Event ByteStep)) → Keeps x lines old w → IsJudged x lines line w new verdict
