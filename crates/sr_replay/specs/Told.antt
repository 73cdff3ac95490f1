-- What is told of a run as it goes: the lines of its report, or those of its trace.
use Rattle.std.specs.Prelude.{◌≡◌, ℕ, List, [], ◌∷◌, ◌++◌, Option, Some, None}
use Rattle.hd_delivery.specs.declared.vocabulary.Side.{Side}
use Rattle.hd_delivery.specs.declared.vocabulary.Side.TheVariants.{Client, Server}
use Rattle.hd_delivery.specs.Histories as of
use Rattle.hd_delivery.specs.Worlds.{Terms, config, ByClient, ByServer}
use Rattle.hd_delivery.specs.Bytes.{Wire, ByteStep, bare_steps, in_frames}
use Rattle.hd_delivery.specs.Sides.{history}
use Rattle.hd_trace.specs.declared.trace.ToldStep.{ToldStep}
use Rattle.hd_trace.specs.Recording.{told_step, line_of}
use Rattle.sr_replay.specs.declared.text_kind.TextKind.{TextKind}
use Rattle.sr_replay.specs.declared.text_kind.TextKind.TheVariants as kinds
use Rattle.sr_replay.specs.Runs.{Doing, Makes, Refuses, Run, steps_of, world_of}
use Rattle.sr_replay.specs.Report.{doing_text}
use Rattle.sr_replay.specs.Trace.{line_text, setup_in}

-- the line of a side, if there is one
abbrev pub told_line : Side → Option ToldStep → List ℕ
told_line side None = []
told_line side (Some step) = line_text (line_of side step)

-- what a trace tells of a step after a history. It is the same whatever the options are
abbrev pub step_line : Wire → of.Config → List ByteStep → ByteStep → List ℕ
step_line wire c h s = told_line c.side (told_step (setup_in wire []) c (in_frames wire c h) s)

-- what a text of this kind tells of what an end did after a history; a trace tells no refusal
abbrev pub told_text : TextKind → Wire → of.Config → List ByteStep → Doing → List ℕ
told_text kinds.Report wire c h d = doing_text c.side (bare_steps h) d
told_text kinds.Trace wire c h (Makes s) = step_line wire c h s
told_text kinds.Trace wire c h (Refuses words) = []

-- of these doings, the latest of which comes first
abbrev pub doings_text : TextKind → Wire → of.Config → List ByteStep → List Doing → List ℕ
doings_text kind wire c h [] = []
doings_text kind wire c h (d ∷ ds) = doings_text kind wire c h ds ++ told_text kind wire c (steps_of ds ++ h) d

-- of these steps
abbrev pub steps_text : TextKind → Wire → of.Config → List ByteStep → List ByteStep → List ℕ
steps_text kind wire c h [] = []
steps_text kind wire c h (s ∷ ss) = steps_text kind wire c h ss ++ told_text kind wire c (ss ++ h) (Makes s)

-- of a run, in the order in which things happened
abbrev pub told_run : TextKind → Wire → Terms → Run → List ℕ
told_run kind wire t [] = []
told_run kind wire t (ByClient d ∷ r) = told_run kind wire t r ++ told_text kind wire (config Client t) (history Client (world_of r)) d
told_run kind wire t (ByServer d ∷ r) = told_run kind wire t r ++ told_text kind wire (config Server t) (history Server (world_of r)) d

-- this was appended, whichever end of this side did it, after whatever history
abbrev pub Tells : TextKind → Side → List ℕ → List ℕ → Doing → Type 0
Tells kind side before after d = (wire : Wire) (c : of.Config) (h : List ByteStep) → c.side ≡ side → after ≡ before ++ told_text kind wire c h d
