-- What holds of all frames and all messages.
use Rattle.std.specs.Prelude.{ℕ, List}
use Rattle.hv_value.specs.Order.{IsInOrder}
use Rattle.hv_pack.specs.Writing.{IsWritable}
use Rattle.hm_message.specs.Message.{Fits}
use Rattle.hm_message.specs.Trees.{IsInRange}
use Rattle.hm_message.specs.declared.message.Message.{Message}
use Rattle.hm_pack.specs.ExactlyOne.{ExactlyOne}
use Rattle.hm_pack.specs.Frame.{array_of, frame_of}
use Rattle.hm_pack.specs.Says.{Says}

-- Each frame has one meaning.
abbrev pub FramesHaveOneMeaning : Type 0
FramesHaveOneMeaning = (frame : List ℕ) → ExactlyOne frame

-- the message is one that the message type can hold, nests no deeper than a frame may, and each part of it has a spelling
pub record IsWellFormed (m : Message) : Type 0 where
  pub fits : Fits m
  pub in_range : IsInRange m
  pub in_order : IsInOrder (array_of m)
  pub writable : IsWritable (array_of m)

-- what is written of such a message says it
abbrev pub WrittenIsSaid : Type 0
WrittenIsSaid = (m : Message) → IsWellFormed m → Says (frame_of m) m
