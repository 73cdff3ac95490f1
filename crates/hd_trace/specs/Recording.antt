-- The lines that tell a world, or a history of one end.
use Rattle.std.specs.Prelude.{◌≡◌, ◌≤◌, ℕ, suc, false, List, [], ◌∷◌, ◌++◌, length, Option, Some, None, option_map, option_to_list}
use Rattle.hd_delivery.specs.declared.vocabulary.Reason.TheVariants.{Done}
use Rattle.hd_delivery.specs.declared.vocabulary.Side.{Side}
use Rattle.hd_delivery.specs.declared.vocabulary.Side.TheVariants.{Client, Server}
use Rattle.hd_delivery.specs.Histories.{EndEvent, Attached, Detached, Took, Failed, Sent, Lent, Ticked, Silenced, Closed, Config, codec_of, processed_messages}
use Rattle.hd_delivery.specs.Worlds.{config, Event, ByClient, ByServer}
use Rattle.hd_delivery.specs.Bytes.{ByteStep, Bytes, Does}
use Rattle.hd_trace.specs.declared.trace.ToldStep.{ToldStep}
use Rattle.hd_trace.specs.declared.trace.ToldStep.TheVariants.{Attach, Detach, Feed, Lend, Send, Take, Tick, Close}
use Rattle.hd_trace.specs.declared.trace.TraceLine.{TraceLine}
use Rattle.hd_trace.specs.Traces.{Setup, clock, steps_of, frames_beside}
use Rattle.hd_trace.specs.Alone.{frames_alone}

-- What tells a step, after a history in frames. Nothing tells a fault, a close for another reason than `Done` or after which the other end may
-- connect again, nor frames that are fed
abbrev pub told_step : Setup → Config → List EndEvent → ByteStep → Option ToldStep
told_step x c k (Bytes piece) = Some (Feed piece)
told_step x c k (Does (Attached l now)) = Some (Attach l)
told_step x c k (Does (Detached now)) = Some Detach
told_step x c k (Does (Took got)) = Some (Take (x.words (suc (length (processed_messages k))) got))
told_step x c k (Does (Sent m)) = Some (Send m)
told_step x c k (Does (Lent f)) = Some (Lend (x.wire.spell (codec_of c k) f))
told_step x c k (Does (Ticked now)) = Some (Tick now)
told_step x c k (Does (Silenced now)) = Some (Tick now)
told_step x c k (Does (Closed Done false)) = Some Close
told_step x c k (Does s) = None

-- the line of a side
abbrev pub line_of : Side → ToldStep → TraceLine
line_of side step = record { side = side; step = step }

-- what tells a step of this side of a world
abbrev pub line_at : Setup → Side → List (Event ByteStep) → ByteStep → Option TraceLine
line_at x side w s = option_map (line_of side) (told_step x (config side x.terms) (frames_beside x side w) s)

-- the lines of a world, the latest first
abbrev pub lines_of : Setup → List (Event ByteStep) → List TraceLine
lines_of x [] = []
lines_of x (ByClient s ∷ w) = option_to_list (line_at x Client w s) ++ lines_of x w
lines_of x (ByServer s ∷ w) = option_to_list (line_at x Server w s) ++ lines_of x w

-- the lines of a history
abbrev pub lines_alone : Setup → Side → List ByteStep → List ToldStep
lines_alone x side [] = []
lines_alone x side (s ∷ h) = option_to_list (told_step x (config side x.terms) (frames_alone x side h) s) ++ lines_alone x side h

-- A line can tell the step, where the last tick came at this moment: it is no fault, a close is one for `Done` after which the other end may not
-- connect again, a link begins and ends at the last tick's moment, and ticks don't fall
abbrev pub CanBeTold : ℕ → ByteStep → Type 0
CanBeTold last (Does (Attached l now)) = now ≡ last
CanBeTold last (Does (Detached now)) = now ≡ last
CanBeTold last (Does (Ticked now)) = last ≤ now
CanBeTold last (Does (Silenced now)) = last ≤ now
CanBeTold last (Does (Closed reason allow)) = (reason ≡ Done) × (allow ≡ false)
CanBeTold last (Does (Failed fault)) = ⊥
CanBeTold last s = Unit {0}

-- so it is of each step of a world
abbrev pub AllCanBeTold : Setup → List (Event ByteStep) → Type 0
AllCanBeTold x [] = Unit {0}
AllCanBeTold x (ByClient s ∷ w) = AllCanBeTold x w × CanBeTold (clock (steps_of (lines_of x w))) s
AllCanBeTold x (ByServer s ∷ w) = AllCanBeTold x w × CanBeTold (clock (steps_of (lines_of x w))) s

-- and of each step of a history
abbrev pub AllCanBeToldAlone : Setup → Side → List ByteStep → Type 0
AllCanBeToldAlone x side [] = Unit {0}
AllCanBeToldAlone x side (s ∷ h) = AllCanBeToldAlone x side h × CanBeTold (clock (lines_alone x side h)) s
