-- The trace of a script's run, and what is promised of it: how the two ends are begun, and the lines that are recorded of their world.
use Rattle.std.specs.Prelude.{◌≡◌, ℕ, Bool, true, false, List, [], ◌∷◌, ◌++◌, codes}
use Rattle.std.specs.Fmt.{decimal}
use Rattle.hex.specs.Hex.{encode_lower}
use Rattle.hd_facts.specs.Prefixes.{IsPrefix}
use Rattle.hd_facts.specs.Unique.{IsTheOne}
use Rattle.hm_message.specs.declared.message.Codec.{Codec}
use Rattle.hm_message.specs.declared.message.Codec.TheVariants.{Json, Pack}
use Rattle.hm_json.specs.Frame.{frame_of}
use Rattle.hd_delivery.specs.Worlds.{Limits, Event}
use Rattle.hd_delivery.specs.Bytes.{Wire, ByteStep}
use Rattle.hd_trace.specs.declared.trace.ToldStep.{ToldStep}
use Rattle.hd_trace.specs.declared.trace.ToldStep.TheVariants.{Attach, Detach, Feed, Lend, Send, Take, Tick, Close}
use Rattle.hd_trace.specs.declared.trace.TraceLine.{TraceLine}
use Rattle.hd_trace.specs.Traces.{Setup, TellWorld}
use Rattle.hd_trace.specs.Recording.{lines_of}
use Rattle.he_wire.specs.Wires.{IsHouseWire}
use Rattle.sr_notation.specs.declared.setting.Setting.{Setting}
use Rattle.sr_notation.specs.Settings.{buffer_words}
use Rattle.sr_notation.specs.Terms.{codec_in, version_in, reconnect_in, limits_in, peers_in, terms_in}
use Rattle.sr_notation.specs.Words.{line, line_at, got_words}
use Rattle.sr_script.specs.declared.action.Action.{Action}
use Rattle.sr_script.specs.Script.{Program}
use Rattle.sr_replay.specs.Runs.{Run, Runs, world_of}
use Rattle.sr_replay.specs.Report.{IsReportOver}

-- ---- the head

abbrev pub codec_word : Codec → List ℕ
codec_word Json = codes "json"
codec_word Pack = codes "pack"

abbrev pub switch_word : Bool → List ℕ
switch_word true = codes "on"
switch_word false = codes "off"

-- how both ends are begun, in the words of the options
abbrev pub head_of : Codec → ℕ → Bool → Limits → List ℕ
head_of codec version reconnect limits =
    line (codes "trace " ++ (codec_word codec ++ (codes " " ++ (decimal version ++ (codes " " ++ (switch_word reconnect ++ (codes " " ++ buffer_words limits)))))))

abbrev pub head_line : List Setting → List ℕ
head_line settings = head_of (codec_in settings) (version_in settings) (reconnect_in settings) (limits_in settings)

-- ---- the lines

-- bytes in hexadecimal, or a dash for none
abbrev pub piece_words : List ℕ → List ℕ
piece_words [] = codes "-"
piece_words (b ∷ bytes) = encode_lower (b ∷ bytes)

-- what an end did, after its letter
abbrev pub step_words : ToldStep → List ℕ
step_words (Attach link) = codes "attach " ++ decimal link
step_words Detach = codes "detach"
step_words (Feed piece) = codes "fed " ++ piece_words piece
step_words (Lend bytes) = codes "lent " ++ encode_lower bytes
step_words (Send m) = codes "sent " ++ frame_of m
step_words (Take words) = codes "took " ++ words
step_words (Tick now) = codes "tick " ++ decimal now
step_words Close = codes "close"

abbrev pub line_text : TraceLine → List ℕ
line_text told = line_at told.side (step_words told.step)

-- of lines, the latest of which comes first
abbrev pub lines_text : List TraceLine → List ℕ
lines_text [] = []
lines_text (told ∷ before) = lines_text before ++ line_text told

-- ---- the trace

-- Two ends that are begun with these options, whose frames are written so. What they take is told in the words of a report.
abbrev pub setup_in : Wire → List Setting → Setup
setup_in wire settings = record { limits = limits_in settings; terms = terms_in settings; wire = wire; words = got_words }

-- of a world of two ends that are begun with these options: the head, and the lines that are recorded of it
abbrev pub trace_text : Wire → List Setting → List (Event ByteStep) → List ℕ
trace_text wire settings w = head_line settings ++ lines_text (lines_of (setup_in wire settings) w)

-- The text is the trace of the run that is reported of the program, which is one without peers. So its steps are a world of two ends, in which delivery holds.
pub record IsTraceOver (wire : Wire) (p : Program) (text : List ℕ) : Type 0 where
  pub without : peers_in p.settings ≡ false
  pub report : List ℕ
  pub reported : IsReportOver wire p report
  pub text_is : text ≡ trace_text wire p.settings (world_of reported.run)

-- so it is over each wire of this project
abbrev pub IsTrace : Program → List ℕ → Type 0
IsTrace p text = (wire : Wire) → IsHouseWire (limits_in p.settings).frame wire → IsTraceOver wire p text

-- the text, after the head, is that of lines that tell the world of the one run that the program's actions make, and no other world
pub record IsTold (wire : Wire) (p : Program) (text : List ℕ) : Type 0 where
  pub run : Run
  pub runs : IsTheOne (Runs (limits_in p.settings) wire (terms_in p.settings) p.actions) run
  pub lines : List TraceLine
  pub tell : IsTheOne (TellWorld (setup_in wire p.settings) lines) (world_of run)
  pub text_is : text ≡ head_line p.settings ++ lines_text lines

-- ---- a first part of it

-- the bytes are a first part of the trace of what the first actions of a program without peers make of the two ends
pub record IsPartOver (wire : Wire) (p : Program) (bytes : List ℕ) : Type 0 where
  pub without : peers_in p.settings ≡ false
  pub later : List Action
  pub before : List Action
  pub run : Run
  pub actions : p.actions ≡ later ++ before
  pub runs : Runs (limits_in p.settings) wire (terms_in p.settings) before run
  pub part : IsPrefix bytes (trace_text wire p.settings (world_of run))

-- so they are over each wire of this project, and a first part of the program's trace
pub record IsPart (p : Program) (bytes : List ℕ) : Type 0 where
  pub of_actions : (wire : Wire) → IsHouseWire (limits_in p.settings).frame wire → IsPartOver wire p bytes
  pub of_trace : (text : List ℕ) → IsTrace p text → IsPrefix bytes text
