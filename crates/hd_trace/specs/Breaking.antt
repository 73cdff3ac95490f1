-- Why a line can't tell a step that comes next, and at which line of a trace that is so.
-- The rules, their order and the count of lines are this project's own.
use Rattle.std.specs.Prelude.{◌≡◌, ◌⊎◌, ◌<◌, ℕ, suc, true, false, List, ◌∷◌, ◌++◌, length, Some, None, option_map}
use Rattle.hd_delivery.specs.declared.vocabulary.Got.{Got}
use Rattle.hd_delivery.specs.declared.vocabulary.Side.{Side}
use Rattle.hd_delivery.specs.Histories.{EndEvent, Attached, Took, Sent, Config, present_link, codec_of, is_closed, is_shaken, processed_messages}
use Rattle.hd_delivery.specs.Due.{due}
use Rattle.hd_delivery.specs.Processes.{processes}
use Rattle.hd_delivery.specs.Worlds.{config, Event}
use Rattle.hd_delivery.specs.Bytes.{ByteStep, Bytes, Does}
use Rattle.hd_trace.specs.declared.trace.ToldStep.{ToldStep}
use Rattle.hd_trace.specs.declared.trace.ToldStep.TheVariants.{Attach, Detach, Feed, Lend, Send, Take, Tick, Close}
use Rattle.hd_trace.specs.declared.trace.TraceLine.{TraceLine}
use Rattle.hd_trace.specs.declared.trace.Rule.{Rule}
use Rattle.hd_trace.specs.declared.trace.Rule.TheVariants as rule
use Rattle.hd_trace.specs.Traces.{Setup, clock, steps_of, frames_beside, MayBeside, TellWorld}
use Rattle.hd_trace.specs.Alone.{frames_alone, MayAlone, TellHistory}

-- ---- one line

-- What the line tells breaks the rule, at an end that was begun so and has this history in frames; May says what may come next
abbrev pub Breaks : Rule → Setup → (ByteStep → Type 0) → Config → List EndEvent → ℕ → ToldStep → Type 0
Breaks rule.Link x May c k now (Attach l) = May (Does (Attached l now)) → ⊥
Breaks rule.Link x May c k now Detach = present_link k ≡ None
Breaks rule.Link x May c k now (Feed piece) = present_link k ≡ None
Breaks rule.Link x May c k now (Lend bytes) = present_link k ≡ None
Breaks rule.Link x May c k now (Take words) = present_link k ≡ None
Breaks rule.State x May c k now (Feed piece) = is_closed c k ≡ true
Breaks rule.State x May c k now (Send m) = (is_closed c k ≡ true) ⊎ (is_shaken k ≡ false)
Breaks rule.State x May c k now (Take words) = is_closed c k ≡ true
Breaks rule.State x May c k now (Tick later) = later < now
Breaks rule.State x May c k now Close = is_closed c k ≡ true
Breaks rule.Bytes x May c k now (Feed piece) = May (Bytes piece) → ⊥
Breaks rule.Due x May c k now (Lend bytes) = option_map (x.wire.spell (codec_of c k)) (due c k) ≡ Some bytes → ⊥
Breaks rule.Took x May c k now (Take words) = (got : Got) → processes c k ≡ Some (Took got)
    → x.words (suc (length (processed_messages k))) got ≡ words → ⊥
Breaks rule.Room x May c k now (Send m) = May (Does (Sent m)) → ⊥
Breaks r x May c k now step = ⊥

-- in which order the rules are looked at
abbrev pub rank : Rule → ℕ
rank rule.Link = 0
rank rule.State = 1
rank rule.Bytes = 2
rank rule.Due = 3
rank rule.Took = 4
rank rule.Room = 5

-- it is the first rule that is broken
abbrev pub IsBrokenBy : Setup → (ByteStep → Type 0) → Config → List EndEvent → ℕ → ToldStep → Rule → Type 0
IsBrokenBy x May c k now step r = Breaks r x May c k now step × ((q : Rule) → rank q < rank r → Breaks q x May c k now step → ⊥)

-- ---- a whole trace

-- after these lines, which told a world, the line breaks it off by the rule
abbrev pub BreaksWorld : Setup → List TraceLine → TraceLine → List (Event ByteStep) → Rule → Type 0
BreaksWorld x before line w r =
    IsBrokenBy x (MayBeside x line.side w) (config line.side x.terms) (frames_beside x line.side w) (clock (steps_of before)) line.step r

-- after these lines of one end, which told a history, the line breaks it off
abbrev pub BreaksHistory : Setup → Side → List ToldStep → ToldStep → List ByteStep → Rule → Type 0
BreaksHistory x side before step h r = IsBrokenBy x (MayAlone x side h) (config side x.terms) (frames_alone x side h) (clock before) step r

-- Lines count from 1, and the first of a trace says how its session is begun. So the one after these has this number
abbrev pub number_after : {L : Type 0} → List L → ℕ
number_after before = suc (suc (length before))

-- the lines before the one of this number tell a session, of one end or two, which that line breaks off by the rule
pub record BreaksOffBy {L T : Type 0} (Tell : List L → T → Type 0) (Breaking : List L → L → T → Rule → Type 0) (lines : List L) (number : ℕ) (r : Rule) : Type 0 where
  pub before : List L
  pub line : L
  pub after : List L
  pub session : T
  pub lines_are : lines ≡ after ++ line ∷ before
  pub number_is : number ≡ number_after before
  pub tells : Tell before session
  pub breaks : Breaking before line session r

-- a world breaks off there
abbrev pub BreaksOff : Setup → List TraceLine → ℕ → Rule → Type 0
BreaksOff x lines number r = BreaksOffBy (TellWorld x) (BreaksWorld x) lines number r

-- a history of one end does
abbrev pub BreaksOffAlone : Setup → Side → List ToldStep → ℕ → Rule → Type 0
BreaksOffAlone x side steps number r = BreaksOffBy (TellHistory x side) (BreaksHistory x side) steps number r
