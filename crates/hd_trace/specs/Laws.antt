-- What holds of traces, of two ends and of one.
use Rattle.std.specs.Prelude.{◌≡◌, ◌≤◌, ℕ, List, [], ◌∷◌}
use Rattle.hd_delivery.specs.declared.vocabulary.Side.{Side}
use Rattle.hd_delivery.specs.declared.vocabulary.Side.TheVariants.{Client, Server}
use Rattle.hd_delivery.specs.Histories.{EndEvent, Attached, Fed, Failed, moment}
use Rattle.hd_delivery.specs.Worlds.{config, Event, ByClient, ByServer, alike, latest, IsOnOneClock}
use Rattle.hd_delivery.specs.Bytes.{ByteStep, Bytes, Does, IsWorldOverBytes, DeliveryOverBytes}
use Rattle.hd_delivery.specs.OneHistory.{IsHistory}
use Rattle.hd_delivery.specs.Sides.{history}
use Rattle.hd_trace.specs.declared.trace.ToldStep.{ToldStep}
use Rattle.hd_trace.specs.declared.trace.TraceLine.{TraceLine}
use Rattle.hd_trace.specs.declared.trace.Rule.{Rule}
use Rattle.hd_trace.specs.Traces.{Setup, clock, steps_of, frames_beside, IsFaithfulTo, MayBeside, TellWorld}
use Rattle.hd_trace.specs.Alone.{frames_alone, IsNamedAlone, MayAlone, TellHistory}
use Rattle.hd_trace.specs.Breaking.{BreaksWorld, BreaksHistory, BreaksOffBy}
use Rattle.hd_trace.specs.Recording.{lines_of, AllCanBeTold, lines_alone, AllCanBeToldAlone}

-- no step was a fault
abbrev pub HasNoFault : List EndEvent → Type 0
HasNoFault [] = Unit {0}
HasNoFault (Failed fault ∷ k) = ⊥
HasNoFault (_ ∷ k) = HasNoFault k

-- ---- what lines tell

-- lines tell one world at most
abbrev pub LinesTellOneWorld : Type 0
LinesTellOneWorld = (x : Setup) (lines : List TraceLine) (v w : List (Event ByteStep)) → TellWorld x lines v → TellWorld x lines w → v ≡ w

-- and those of one end one history at most
abbrev pub StepsTellOneHistory : Type 0
StepsTellOneHistory = (x : Setup) (side : Side) (steps : List ToldStep) (g h : List ByteStep) → TellHistory x side steps g → TellHistory x side steps h → g ≡ h

-- the step that an event is, but for what was fed
abbrev pub bare_step : ByteStep → EndEvent
bare_step (Bytes piece) = Fed []
bare_step (Does s) = s

-- the events of both ends without the bytes
abbrev pub bare_events : List (Event ByteStep) → List (Event EndEvent)
bare_events [] = []
bare_events (ByClient s ∷ w) = ByClient (bare_step s) ∷ bare_events w
bare_events (ByServer s ∷ w) = ByServer (bare_step s) ∷ bare_events w

-- a world over bytes of two ends on one clock, which stands at this moment; neither end met a fault
pub record IsToldWorld (x : Setup) (now : ℕ) (w : List (Event ByteStep)) : Type 0 where
  pub is_world : IsWorldOverBytes (alike x.limits) x.wire x.terms w
  pub on_one_clock : IsOnOneClock (bare_events w)
  pub clock_is : latest (bare_events w) ≡ now
  pub in_time : (side : Side) → moment (frames_beside x side w) ≤ now
  pub faultless : (side : Side) → HasNoFault (frames_beside x side w)

-- so is what lines tell, and its clock stands at the last tick
abbrev pub ToldIsWorld : Type 0
ToldIsWorld = (x : Setup) (lines : List TraceLine) (w : List (Event ByteStep)) → TellWorld x lines w → IsToldWorld x (clock (steps_of lines)) w

-- so delivery holds of it, where what is said in it is read as itself
abbrev pub ToldIsDelivered : Type 0
ToldIsDelivered = (x : Setup) (lines : List TraceLine) (w : List (Event ByteStep)) → TellWorld x lines w → IsFaithfulTo x w → DeliveryOverBytes x.wire x.terms w

-- the names of all links that an end began were its to give
abbrev pub AreNamedAlone : Setup → Side → List ByteStep → Type 0
AreNamedAlone x side [] = Unit {0}
AreNamedAlone x side (s ∷ h) = AreNamedAlone x side h × IsNamedAlone side (frames_alone x side h) s

-- a history that an end can make by itself, of which no moment is past this one; it met no fault
pub record IsToldHistory (x : Setup) (side : Side) (now : ℕ) (h : List ByteStep) : Type 0 where
  pub is_history : IsHistory x.limits x.wire (config side x.terms) h
  pub named : AreNamedAlone x side h
  pub in_time : moment (frames_alone x side h) ≤ now
  pub faultless : HasNoFault (frames_alone x side h)

-- so is what the lines of one end tell, with the moment of its last tick
abbrev pub ToldIsHistory : Type 0
ToldIsHistory = (x : Setup) (side : Side) (steps : List ToldStep) (h : List ByteStep) → TellHistory x side steps h → IsToldHistory x side (clock steps) h

-- ---- one verdict

-- Lines that tell a session don't break off; those that break off do so at one line by one rule; and it can't be that they do neither
pub record HasOneVerdict {L T : Type 0} (Tell : List L → T → Type 0) (Breaking : List L → L → T → Rule → Type 0) (lines : List L) : Type 0 where
  pub apart : (session : T) (n : ℕ) (r : Rule) → Tell lines session → BreaksOffBy Tell Breaking lines n r → ⊥
  pub once : (m n : ℕ) (q r : Rule) → BreaksOffBy Tell Breaking lines m q → BreaksOffBy Tell Breaking lines n r → (m ≡ n) × (q ≡ r)
  pub some : ((session : T) → Tell lines session → ⊥) → ((n : ℕ) (r : Rule) → BreaksOffBy Tell Breaking lines n r → ⊥) → ⊥

-- so it is of each trace of two ends
abbrev pub OneVerdict : Type 0
OneVerdict = (x : Setup) (lines : List TraceLine) → HasOneVerdict (TellWorld x) (BreaksWorld x) lines

-- and of the lines of one end
abbrev pub OneVerdictAlone : Type 0
OneVerdictAlone = (x : Setup) (side : Side) (steps : List ToldStep) → HasOneVerdict (TellHistory x side) (BreaksHistory x side) steps

-- ---- recordings

-- what is recorded of a world tells this world
abbrev pub RecordsTell : Type 0
RecordsTell = (x : Setup) (w : List (Event ByteStep)) → IsWorldOverBytes (alike x.limits) x.wire x.terms w → AllCanBeTold x w → TellWorld x (lines_of x w) w

-- what is recorded of one end tells its history
abbrev pub RecordsTellAlone : Type 0
RecordsTellAlone = (x : Setup) (side : Side) (h : List ByteStep) → IsHistory x.limits x.wire (config side x.terms) h → AreNamedAlone x side h
    → AllCanBeToldAlone x side h → TellHistory x side (lines_alone x side h) h

-- lines are what is recorded of what they tell, and a line can tell each of its steps
abbrev pub ToldIsRecorded : Type 0
ToldIsRecorded = (x : Setup) (lines : List TraceLine) (w : List (Event ByteStep)) → TellWorld x lines w → (lines ≡ lines_of x w) × AllCanBeTold x w

-- so it is of the lines of one end
abbrev pub ToldIsRecordedAlone : Type 0
ToldIsRecordedAlone = (x : Setup) (side : Side) (steps : List ToldStep) (h : List ByteStep) → TellHistory x side steps h
    → (steps ≡ lines_alone x side h) × AllCanBeToldAlone x side h

-- ---- beside another end, and alone

-- whether this step may come is said by its own end alone: all but bytes that are fed, and links that a server takes
abbrev pub IsOfOneEnd : ByteStep → Side → Type 0
IsOfOneEnd (Bytes piece) side = ⊥
IsOfOneEnd (Does (Attached l now)) Client = Unit {0}
IsOfOneEnd (Does (Attached l now)) Server = ⊥
IsOfOneEnd s side = Unit {0}

-- what may come next beside another end may come next at an end alone, and of these steps nothing else may
pub record AgreesAlone (x : Setup) (side : Side) (w : List (Event ByteStep)) : Type 0 where
  pub fewer : (s : ByteStep) → MayBeside x side w s → MayAlone x side (history side w) s
  pub same : (s : ByteStep) → IsOfOneEnd s side → MayAlone x side (history side w) s → MayBeside x side w s

abbrev pub AloneAgrees : Type 0
AloneAgrees = (x : Setup) (side : Side) (w : List (Event ByteStep)) → AgreesAlone x side w
