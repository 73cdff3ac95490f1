-- What is written of one frame.
use Rattle.std.specs.Prelude.{◌≡◌, ◌⊎◌, ℕ, ℤ, List, [], ◌++◌, codes}
use Rattle.std.specs.Fmt.{decimal, signed_decimal}
use Rattle.hf_split.specs.declared.framing.Framing.{Framing}
use Rattle.hm_message.specs.declared.message.Codec.{Codec}
use Rattle.hm_message.specs.declared.message.Message.{Message}
use Rattle.hm_message.specs.declared.message.Codec.TheVariants as codecs
use Rattle.sr_check.specs.declared.task.Task.{Task}
use Rattle.sr_check.specs.declared.task.Task.TheVariants.{Check, Convert}
use Rattle.hm_codec.specs.Frames.{Says, Unknown, frame_of, framed, framing_of}

-- the codec of the stream that is read
abbrev pub codec_of : Task → Codec
codec_of (Check codec) = codec
codec_of (Convert from to) = from

abbrev pub framing : Task → Framing
framing task = framing_of (codec_of task)

-- a line: the place of a frame, and what is said of it
abbrev pub line_at : ℕ → List ℕ → List ℕ
line_at at words = decimal at ++ (codes " " ++ (words ++ codes "\n"))

-- what is written of a message: its line with its JSON text, or its frame in the other codec
abbrev pub message_text : Task → ℕ → Message → List ℕ
message_text (Check codec) at m = line_at at (codes "message " ++ frame_of codecs.Json m)
message_text (Convert from to) at m = framed to m

-- what is written of a frame of an unknown type: its line, or nothing
abbrev pub unknown_text : Task → ℕ → ℤ → List ℕ
unknown_text (Check codec) at n = line_at at (codes "unknown " ++ signed_decimal n)
unknown_text (Convert from to) at n = []

-- this is written of the frame, with so many bytes before it, where it isn't refused
abbrev pub IsWritten : Task → ℕ → List ℕ → List ℕ → Type 0
IsWritten task at frame text =
    ((m : Message) × Says (codec_of task) frame m × (text ≡ message_text task at m))
    ⊎ ((n : ℤ) × Unknown (codec_of task) frame n × (text ≡ unknown_text task at n))

-- what is written last where the stream can't be followed further: a line with these words, or nothing
abbrev pub last_text : Task → ℕ → List ℕ → List ℕ
last_text (Check codec) at words = line_at at words
last_text (Convert from to) at words = []
