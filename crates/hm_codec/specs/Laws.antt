-- What holds of all frames and all messages.
use Rattle.std.specs.Prelude.{◌≡◌, ◌<◌, ◌≤◌, ◌+◌, ◌*◌, ◌^◌, ℕ, List, [], length, Some, MatchOption, ⊤}
use Rattle.std.specs.Str.{IsUtf8}
use Rattle.json.specs.Print.{escape}
use Rattle.hm_message.specs.declared.message.Codec.{Codec}
use Rattle.hm_message.specs.declared.message.Codec.TheVariants.{Json, Pack}
use Rattle.hm_message.specs.declared.message.Message.{Message}
use Rattle.hm_message.specs.declared.message.Message.TheVariants.{Completion, Ping, Close, Ack, Sequence}
use Rattle.hm_message.specs.declared.message.Ending.TheVariants.{Error}
use Rattle.hm_message.specs.Meaning.{HasOneMeaning}
use Rattle.hm_message.specs.Trees.{AreInRange}
use Rattle.hm_codec.specs.Frames.{Says, Unknown, Why, frame_of, said_again, HasSpelling, IsSaid}

-- the frame says one message, is of one unknown type, or is refused for one reason
abbrev pub IsOneMeaning : Codec → List ℕ → Type 0
IsOneMeaning codec frame = HasOneMeaning (Says codec frame) (Unknown codec frame) (Why codec frame)

-- each frame, in each codec, has one meaning
abbrev pub FramesHaveOneMeaning : Type 0
FramesHaveOneMeaning = (codec : Codec) (frame : List ℕ) → IsOneMeaning codec frame

-- what a message's frame says has the same frame
abbrev pub FrameIsOfImage : Type 0
FrameIsOfImage = (codec : Codec) (m : Message) → frame_of codec (said_again codec m) ≡ frame_of codec m

-- ---- messages that are not sequenced

-- a text that both codecs can spell
abbrev pub IsText : List ℕ → Type 0
IsText s = IsUtf8 s × (length s < 2 ^ 32)

-- the message is not sequenced, its numbers have 64 bits, and both codecs can spell its error
abbrev pub IsControl : Message → Type 0
IsControl Ping = ⊤
IsControl (Close error allow) = MatchOption error ⊤ IsText
IsControl (Ack upto) = upto < 2 ^ 64
IsControl (Sequence first received) = (first < 2 ^ 64) × AreInRange received
IsControl m = ⊥

-- what is written of it says the message itself
abbrev pub ControlsAreSaid : Type 0
ControlsAreSaid = (codec : Codec) (m : Message) → IsControl m → IsSaid codec m × HasSpelling codec m

-- how many bytes the message's error has
abbrev pub error_length : Message → ℕ
error_length (Close (Some error) allow) = length error
error_length m = 0

-- the greatest number of bytes that stand in such a frame beside its error
abbrev pub most_of_control : ℕ
most_of_control = 128

-- the greatest number of bytes that a byte of a text has in JSON: "\u0000" of a control character
abbrev pub most_of_escape : ℕ
most_of_escape = 6

-- its frame is short
abbrev pub ControlsAreShort : Type 0
ControlsAreShort = (codec : Codec) (m : Message) → IsControl m → length (frame_of codec m) ≤ most_of_control + most_of_escape * error_length m

-- ---- completions with an error

-- how many bytes a text has in a frame, but for what stands around it
abbrev pub text_size : Codec → List ℕ → ℕ
text_size Json s = length (escape s)
text_size Pack s = length s

-- the greatest number of bytes that stand in the frame of a Completion with an error beside its two texts, if it has no headers
abbrev pub most_of_error : ℕ
most_of_error = 48

-- such a frame is short
pub record ErrorsAreShort : Type 0 where
  pub frame : (codec : Codec) (id error : List ℕ) → length (frame_of codec (Completion [] id (Error error))) ≤ most_of_error + (text_size codec id + text_size codec error)
  pub text : (codec : Codec) (s : List ℕ) → text_size codec s ≤ most_of_escape * length s
