-- What the lines of one end alone tell: a history that this end can make by itself, whatever is on the other side of its links.
-- So the recording of one end judges that end, also where the other one isn't of this project.
use Rattle.std.specs.Prelude.{◌≡◌, ◌<◌, ℕ, true, List, [], ◌∷◌}
use Rattle.hd_delivery.specs.declared.vocabulary.Side.{Side}
use Rattle.hd_delivery.specs.declared.vocabulary.Side.TheVariants.{Client, Server}
use Rattle.hd_delivery.specs.Histories.{EndEvent, Attached, was_on}
use Rattle.hd_delivery.specs.Worlds.{config}
use Rattle.hd_delivery.specs.Bytes.{ByteStep, Does, in_frames}
use Rattle.hd_delivery.specs.OneHistory.{MayDoOverBytes}
use Rattle.hd_trace.specs.declared.trace.ToldStep.{ToldStep}
use Rattle.hd_trace.specs.Traces.{Setup, clock, Makes}

-- how an end may name a link by itself: a client's names rise. Which links a server takes is said of both ends
abbrev pub MayNameAlone : Side → ℕ → List EndEvent → Type 0
MayNameAlone Client l k = (m : ℕ) → was_on m k ≡ true → m < l
MayNameAlone Server l k = Unit {0}

-- the name of a link that the step begins
abbrev pub IsNamedAlone : Side → List EndEvent → ByteStep → Type 0
IsNamedAlone side k (Does (Attached l now)) = MayNameAlone side l k
IsNamedAlone side k s = Unit {0}

-- the history in frames
abbrev pub frames_alone : Setup → Side → List ByteStep → List EndEvent
frames_alone x side h = in_frames x.wire (config side x.terms) h

-- the step may come next after the end's own history
abbrev pub MayAlone : Setup → Side → List ByteStep → ByteStep → Type 0
MayAlone x side h s = MayDoOverBytes x.limits x.wire (config side x.terms) h s × IsNamedAlone side (frames_alone x side h) s

-- the line tells this step, which may come next
abbrev pub MakesAlone : Setup → Side → List ByteStep → ℕ → ToldStep → ByteStep → Type 0
MakesAlone x side h now step s = Makes x (MayAlone x side h) (config side x.terms) (frames_alone x side h) now step s

-- the lines tell this history
abbrev pub TellHistory : Setup → Side → List ToldStep → List ByteStep → Type 0
TellHistory x side [] h = h ≡ []
TellHistory x side (step ∷ steps) h = (g : List ByteStep) × (s : ByteStep) × (TellHistory x side steps g × MakesAlone x side g (clock steps) step s × (h ≡ s ∷ g))
