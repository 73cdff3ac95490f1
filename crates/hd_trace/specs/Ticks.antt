-- Ticks that come right before a link begins or is lost. A trace has no moment there but that of the last tick, so whoever records one end writes such a tick.
use Rattle.std.specs.Prelude.{◌≡◌, ◌↔◌, ◌≤◌, ℕ, Bool, true, false, List, ◌∷◌, None, if◌then◌else◌}
use Rattle.hm_message.specs.declared.message.Message.{Message}
use Rattle.hd_delivery.specs.declared.vocabulary.Reason.{Reason}
use Rattle.hd_delivery.specs.declared.vocabulary.Side.{Side}
use Rattle.hd_delivery.specs.Histories.{EndEvent, Attached, Detached, Ticked, Silenced, Config, is_silence, moment}
use Rattle.hd_delivery.specs.Worlds.{MayAttach, config}
use Rattle.hd_delivery.specs.Bytes.{ByteStep, Does}
use Rattle.hd_trace.specs.Traces.{Setup}
use Rattle.hd_trace.specs.Alone.{frames_alone, MayAlone}
use Rattle.hd_trace.specs.declared.marks.Marks.{Marks}
use Rattle.hd_trace.specs.Marks.{marks_of, attached, left, ticked, sent_one, closed_for}
use Rattle.hd_trace.specs.ByMarks.{is_silence_by, state_by, MayBeginBy, due_by}

-- marks without what is asked on a link alone: when it was heard, and whether the end was quiet there
abbrev pub off_link : Marks → Marks
off_link m = record m { heard = None; quiet = false }

-- A tick that comes no later than a link begins has no effect after that, be it a silence or not, nor on whether the link may begin. One that comes no
-- later than a loss has none off the link
pub record HasNoEffect (before now : ℕ) (m : Marks) : Type 0 where
  pub attach : (l : ℕ) → attached l now (ticked before m) ≡ attached l now m
  pub attach_after_silence : (l : ℕ) → m.resumable ≡ true → attached l now (left before m) ≡ attached l now m
  pub begins : MayBeginBy now (ticked before m) ↔ MayBeginBy now m
  pub begins_after_silence : m.resumable ≡ true → MayBeginBy now (left before m) ↔ MayBeginBy now m
  pub loss : off_link (left now (ticked before m)) ≡ off_link (left now m)

-- the step that a tick at this moment is, after this history
abbrev pub tick_at : Setup → Side → List ByteStep → ℕ → ByteStep
tick_at x side h now = Does (if is_silence (config side x.terms) now (frames_alone x side h) then Silenced now else Ticked now)

-- A tick may come, if it isn't before the moments of the end. A link may begin after it, alone and beside any other end, exactly if it might
-- have begun without it and doesn't before it. So it is with a loss, unless the tick is a silence
pub record ForbidsNothing (x : Setup) (side : Side) (h : List ByteStep) (before now : ℕ) : Type 0 where
  pub tick : moment (frames_alone x side h) ≤ before → MayAlone x side h (tick_at x side h before)
  pub attach : (l : ℕ) → MayAlone x side (tick_at x side h before ∷ h) (Does (Attached l now)) ↔ (MayAlone x side h (Does (Attached l now)) × (before ≤ now))
  pub attach_beside : (other : List EndEvent) (l : ℕ) → MayAttach (config side x.terms) (frames_alone x side (tick_at x side h before ∷ h)) other l now
      ↔ (MayAttach (config side x.terms) (frames_alone x side h) other l now × (before ≤ now))
  pub loss : MayAlone x side (tick_at x side h before ∷ h) (Does (Detached now))
      ↔ ((is_silence (config side x.terms) before (frames_alone x side h) ≡ false) × MayAlone x side h (Does (Detached now)) × (before ≤ now))

-- so it is, and a tick that is a silence is the loss
pub record TicksBeforeLinks : Type 0 where
  pub unseen : (before now : ℕ) (m : Marks) → before ≤ now → HasNoEffect before now m
  pub may_come : (x : Setup) (side : Side) (h : List ByteStep) (before now : ℕ) → ForbidsNothing x side h before now
  pub silence_is_loss : (c : Config) (k : List EndEvent) (now : ℕ) → marks_of c (Silenced now ∷ k) ≡ marks_of c (Detached now ∷ k)

-- of an end without a link all that is asked is said by the marks off the link, and each step that it can make keeps what they say
pub record IsSaidOffLink (m : Marks) : Type 0 where
  pub silence : (now : ℕ) → is_silence_by now m ≡ is_silence_by now (off_link m)
  pub stands : state_by m ≡ state_by (off_link m)
  pub due : (c : Config) (sent : List Message) → due_by c m sent ≡ due_by c (off_link m) sent
  pub begins : (now : ℕ) → MayBeginBy now m ↔ MayBeginBy now (off_link m)
  pub attach : (l now : ℕ) → attached l now m ≡ attached l now (off_link m)
  pub tick : (now : ℕ) → off_link (ticked now m) ≡ off_link (ticked now (off_link m))
  pub send : off_link (sent_one m) ≡ off_link (sent_one (off_link m))
  pub close : (reason : Reason) (allow : Bool) → off_link (closed_for reason allow m) ≡ off_link (closed_for reason allow (off_link m))

abbrev pub OffLinkIsEnough : Type 0
OffLinkIsEnough = (m : Marks) → m.link ≡ None → IsSaidOffLink m
