-- The grammar of a trace, as its printer: a text is a trace exactly if it is the text of a head and of lines that a trace may have.
use Rattle.std.specs.Prelude.{◌≡◌, ◌≢◌, ◌≤◌, ◌<◌, ◌^◌, ℕ, Bool, true, false, List, [], ◌∷◌, ◌++◌, length, codes, All, Option, Some, None}
use Rattle.std.specs.Fmt.{decimal}
use Rattle.std.specs.Str.{IsUtf8}
use Rattle.hex.specs.Hex.{IsBytes, encode_lower}
use Rattle.hm_message.specs.declared.message.Codec.{Codec}
use Rattle.hm_message.specs.declared.message.Codec.TheVariants.{Json, Pack}
use Rattle.hm_message.specs.declared.message.Message.{Message}
use Rattle.hm_message.specs.Message.{Fits, is_sequenced}
use Rattle.hm_json.specs.Frame.{frame_of}
use Rattle.hm_json.specs.Says.{Says}
use Rattle.hs_shake.specs.Requests.{IsVersion}
use Rattle.hd_delivery.specs.Bounds.{AreLimits}
use Rattle.hd_delivery.specs.Worlds.{Terms}
use Rattle.hd_delivery.specs.declared.vocabulary.Side.{Side}
use Rattle.hd_trace.specs.declared.trace.ToldStep.{ToldStep}
use Rattle.hd_trace.specs.declared.trace.ToldStep.TheVariants.{Attach, Detach, Feed, Lend, Send, Take, Tick, Close}
use Rattle.hd_trace.specs.declared.trace.TraceLine.{TraceLine}
use Rattle.sr_notation.specs.Settings.{buffer_words}
use Rattle.sr_notation.specs.Words.{letter, line}
use Rattle.ha_audit.specs.declared.head.Head.{Head}

-- the most bytes of a trace: 64 MiB
abbrev pub most_trace : ℕ
most_trace = 67108864

-- ---- the head

abbrev pub codec_word : Codec → List ℕ
codec_word Json = codes "json"
codec_word Pack = codes "pack"

abbrev pub switch_word : Bool → List ℕ
switch_word true = codes "on"
switch_word false = codes "off"

-- how the two ends are begun, in the words of the options
abbrev pub head_words : Head → List ℕ
head_words head =
    codes "trace " ++ (codec_word head.codec ++ (codes " " ++ (decimal head.version ++ (codes " " ++ (switch_word head.reconnect ++ (codes " " ++ buffer_words head.limits))))))

-- a head that a trace may have: a version that is spoken, and limits of an end
pub record IsHead (head : Head) : Type 0 where
  pub version : IsVersion head.version
  pub limits : AreLimits head.limits

-- both ends are begun alike
abbrev pub terms_of : Head → Terms
terms_of head = record {
  codec = head.codec;
  version = head.version;
  server_codec = head.codec;
  server_version = head.version;
  reconnect = head.reconnect;
}

-- ---- lines

-- bytes in hexadecimal, in lower case, or a dash for none
abbrev pub piece_words : List ℕ → List ℕ
piece_words [] = codes "-"
piece_words (b ∷ bytes) = encode_lower (b ∷ bytes)

-- what a line says after the letter of its end
abbrev pub step_words : ToldStep → List ℕ
step_words (Attach link) = codes "attach " ++ decimal link
step_words Detach = codes "detach"
step_words (Feed piece) = codes "fed " ++ piece_words piece
step_words (Lend frame) = codes "lent " ++ encode_lower frame
step_words (Send m) = codes "sent " ++ frame_of m
step_words (Take words) = codes "took " ++ words
step_words (Tick now) = codes "tick " ++ decimal now
step_words Close = codes "close"

-- a line without its end: the letter of the end whose it is, and what it tells
abbrev pub line_words : TraceLine → List ℕ
line_words told = letter told.side ++ (codes " " ++ step_words told.step)

abbrev pub line_text : TraceLine → List ℕ
line_text told = line (line_words told)

-- no end of a line, LF (10), among the bytes
abbrev pub IsOneLine : List ℕ → Type 0
IsOneLine bytes = All (λ b. b ≢ 10) bytes

-- A message that a line can tell: one that is sent, and is what its own text says, so none of its values is bytes
pub record HasText (m : Message) : Type 0 where
  pub sent : is_sequenced m ≡ true
  pub fits : Fits m
  pub said : Says (frame_of m) m

-- words that a line can tell
pub record AreWords (words : List ℕ) : Type 0 where
  pub some : words ≢ []
  pub one_line : IsOneLine words
  pub utf8 : IsUtf8 words

-- a step that a line can tell: numbers of 64 bits, bytes, and a frame of some bytes
abbrev pub HasLine : ToldStep → Type 0
HasLine (Attach link) = link < 2 ^ 64
HasLine Detach = Unit {0}
HasLine (Feed piece) = IsBytes piece
HasLine (Lend frame) = IsBytes frame × (frame ≢ [])
HasLine (Send m) = HasText m
HasLine (Take words) = AreWords words
HasLine (Tick now) = now < 2 ^ 64
HasLine Close = Unit {0}

-- the side is the one whose lines alone may stand, if one is named
abbrev pub IsOf : Option Side → Side → Type 0
IsOf None side = Unit {0}
IsOf (Some only) side = side ≡ only

-- a trace may have the line, of both ends or of the one that is named
pub record IsLine (only : Option Side) (told : TraceLine) : Type 0 where
  pub side : IsOf only told.side
  pub step : HasLine told.step

-- ---- traces

-- Lines stand in a list, the latest first.

-- each of these may stand in a trace
abbrev pub AreLines : Option Side → List TraceLine → Type 0
AreLines only [] = Unit {0}
AreLines only (last ∷ before) = AreLines only before × IsLine only last

-- the text of a head and the lines after it
abbrev pub trace_text : Head → List TraceLine → List ℕ
trace_text head [] = line (head_words head)
trace_text head (last ∷ before) = trace_text head before ++ line_text last

-- the text is the trace of this head and these lines, of both ends or of the one that is named
pub record IsTrace (only : Option Side) (text : List ℕ) (head : Head) (lines : List TraceLine) : Type 0 where
  pub begun : IsHead head
  pub told : AreLines only lines
  pub text_is : text ≡ trace_text head lines
  pub short : length text ≤ most_trace
