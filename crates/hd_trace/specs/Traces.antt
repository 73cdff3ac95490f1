-- What the lines of a trace tell: steps of the two ends of a session, which make a world.
-- A trace is this project's own. Lines stand in a list, the latest first, as the steps of worlds and histories do.
use Rattle.std.specs.Prelude.{◌≡◌, ◌⊎◌, ◌≤◌, ℕ, suc, false, List, [], ◌∷◌, ◌++◌, length, map}
use Rattle.hd_delivery.specs.declared.vocabulary.Got.{Got}
use Rattle.hd_delivery.specs.declared.vocabulary.Reason.TheVariants.{Done}
use Rattle.hd_delivery.specs.declared.vocabulary.Side.{Side}
use Rattle.hd_delivery.specs.declared.vocabulary.Side.TheVariants.{Client, Server}
use Rattle.hd_delivery.specs.Frames.{LinkFrame}
use Rattle.hd_delivery.specs.Histories.{EndEvent, Attached, Detached, Took, Sent, Lent, Ticked, Silenced, Closed, Config, codec_of, sent_messages, processed_messages}
use Rattle.hd_delivery.specs.Worlds.{Limits, Terms, config, Event}
use Rattle.hd_delivery.specs.Bytes.{Wire, ByteStep, Bytes, Does, IsFaithful, AllowedOverBytes}
use Rattle.hd_delivery.specs.Sides.{other, by, history, frames_at}
use Rattle.hd_trace.specs.declared.trace.ToldStep.{ToldStep}
use Rattle.hd_trace.specs.declared.trace.ToldStep.TheVariants.{Attach, Detach, Feed, Lend, Send, Take, Tick, Close}
use Rattle.hd_trace.specs.declared.trace.TraceLine.{TraceLine}

-- how what is taken is told: by its number, which a message has, and what it gave
abbrev pub Words : Type 0
Words = ℕ → Got → List ℕ

-- how the two ends of a session are begun, with the same limits, and how their frames and what they take are written
pub record Setup : Type 0 where
  pub limits : Limits
  pub terms : Terms
  pub wire : Wire
  pub words : Words

-- ---- the clock

-- the moment after a line, where the last one was this
abbrev pub clock_after : ToldStep → ℕ → ℕ
clock_after (Tick now) last = now
clock_after step last = last

-- the moment of the last tick, or 0
abbrev pub clock : List ToldStep → ℕ
clock [] = 0
clock (step ∷ steps) = clock_after step (clock steps)

-- what the lines of both ends tell
abbrev pub steps_of : List TraceLine → List ToldStep
steps_of lines = map (λ line. line.step) lines

-- ---- one line

-- After a history in frames, at this moment, the line tells this step of an end that was begun so. A frame is told by its bytes, and what is taken by
-- its words. A tick may be a silence, and isn't before the moment
abbrev pub Tells : Setup → Config → List EndEvent → ℕ → ToldStep → ByteStep → Type 0
Tells x c k now (Attach l) s = s ≡ Does (Attached l now)
Tells x c k now Detach s = s ≡ Does (Detached now)
Tells x c k now (Feed piece) s = s ≡ Bytes piece
Tells x c k now (Lend bytes) s = (f : LinkFrame) × ((s ≡ Does (Lent f)) × (x.wire.spell (codec_of c k) f ≡ bytes))
Tells x c k now (Send m) s = s ≡ Does (Sent m)
Tells x c k now (Take words) s = (got : Got) × ((s ≡ Does (Took got)) × (x.words (suc (length (processed_messages k))) got ≡ words))
Tells x c k now (Tick later) s = (now ≤ later) × ((s ≡ Does (Ticked later)) ⊎ (s ≡ Does (Silenced later)))
Tells x c k now Close s = s ≡ Does (Closed Done false)

-- it tells this one, which may come next by these rules
pub record Makes (x : Setup) (May : ByteStep → Type 0) (c : Config) (k : List EndEvent) (now : ℕ) (step : ToldStep) (s : ByteStep) : Type 0 where
  pub tells : Tells x c k now step s
  pub allowed : May s

-- ---- two ends

-- the history of a side in frames
abbrev pub frames_beside : Setup → Side → List (Event ByteStep) → List EndEvent
frames_beside x side w = frames_at x.wire x.terms w side

-- what is said in the world is read as itself
abbrev pub IsFaithfulTo : Setup → List (Event ByteStep) → Type 0
IsFaithfulTo x w = IsFaithful x.limits x.wire x.terms.codec x.terms.version (sent_messages (frames_beside x Client w) ++ sent_messages (frames_beside x Server w))

-- the step may come next at this side of a world
abbrev pub MayBeside : Setup → Side → List (Event ByteStep) → ByteStep → Type 0
MayBeside x side w s = AllowedOverBytes x.limits x.wire (config side x.terms) (config (other side) x.terms) (history side w) (history (other side) w) s

-- the line tells this step of this side, which may come next
abbrev pub MakesAt : Setup → Side → List (Event ByteStep) → ℕ → ToldStep → ByteStep → Type 0
MakesAt x side w now step s = Makes x (MayBeside x side w) (config side x.terms) (frames_beside x side w) now step s

-- the lines tell this world
abbrev pub TellWorld : Setup → List TraceLine → List (Event ByteStep) → Type 0
TellWorld x [] w = w ≡ []
TellWorld x (line ∷ lines) w = (v : List (Event ByteStep)) × (s : ByteStep) × (TellWorld x lines v × MakesAt x line.side v (clock (steps_of lines)) line.step s × (w ≡ by line.side s ∷ v))
