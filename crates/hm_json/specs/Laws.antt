-- What holds of all frames and all messages.
use Rattle.std.specs.Prelude.{◌≡◌, ℕ, List}
use Rattle.hv_value.specs.Order.{IsInOrder}
use Rattle.hv_json.specs.Sent.{HasWholes, HasUtf8}
use Rattle.hm_message.specs.Message.{Fits, message_image}
use Rattle.hm_message.specs.Trees.{IsInRange}
use Rattle.hm_message.specs.declared.message.Message.{Message}
use Rattle.hm_json.specs.ExactlyOne.{ExactlyOne}
use Rattle.hm_json.specs.Frame.{object_of, frame_of}
use Rattle.hm_json.specs.Says.{Says}

-- Each frame has one meaning.
abbrev pub FramesHaveOneMeaning : Type 0
FramesHaveOneMeaning = (frame : List ℕ) → ExactlyOne frame

-- the message is one that the message type can hold, and nests no deeper than a frame may
pub record IsWellFormed (m : Message) : Type 0 where
  pub fits : Fits m
  pub in_range : IsInRange m
  pub in_order : IsInOrder (object_of m)
  pub wholes : HasWholes (object_of m)
  pub utf8 : HasUtf8 (object_of m)

-- what is written of such a message says it, with each of its bytes as the text of their base64
abbrev pub WrittenIsSaid : Type 0
WrittenIsSaid = (m : Message) → IsWellFormed m → Says (frame_of m) (message_image m)

-- a message has the frame of its image
abbrev pub FrameIsOfImage : Type 0
FrameIsOfImage = (m : Message) → frame_of (message_image m) ≡ frame_of m
