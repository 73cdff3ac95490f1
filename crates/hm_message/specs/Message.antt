-- What is said of messages. Contracts see texts in them as lists of bytes.
use Rattle.std.specs.Prelude.{ℕ, ◌≤◌, Bool, true, false}
use Rattle.hv_value.specs.Tree as tree
use Rattle.hv_value.specs.Tree.{Tree, Trees, Pairs, Pair, depth, trees}
use Rattle.hv_value.specs.Image.{image, images}
use Rattle.hv_value.specs.View as seen
use Rattle.hv_value.specs.declared.value.Value.{Value}
use Rattle.hv_value.specs.declared.value.Value.TheVariants as value
use Rattle.hm_message.specs.Fields.{trees_in, pairs_in}
use Rattle.hm_message.specs.declared.message.Message.{Message}
use Rattle.hm_message.specs.declared.message.Message.TheVariants.{Invocation, StreamItem, Completion, StreamInvocation, CancelInvocation, Ping, Close, Ack, Sequence}
use Rattle.hm_message.specs.declared.message.Ending.{Ending}
use Rattle.hm_message.specs.declared.message.Ending.TheVariants.{Void, Result, Error}

-- the message counts in the numbering of Ack and Sequence
abbrev pub is_sequenced : Message → Bool
is_sequenced (Invocation headers id target arguments streams) = true
is_sequenced (StreamItem headers id item) = true
is_sequenced (Completion headers id ending) = true
is_sequenced (StreamInvocation headers id target arguments streams) = true
is_sequenced (CancelInvocation headers id) = true
is_sequenced Ping = false
is_sequenced (Close error allow) = false
is_sequenced (Ack upto) = false
is_sequenced (Sequence first received) = false

abbrev pub ending_depth : Ending → ℕ
ending_depth Void = 0
ending_depth (Result v) = depth (seen.tree v)
ending_depth (Error s) = 0

-- how deep the arguments as a list, the item or the result nest
abbrev pub content_depth : Message → ℕ
content_depth (Invocation headers id target arguments streams) = depth (tree.list (trees arguments))
content_depth (StreamItem headers id item) = depth (seen.tree item)
content_depth (Completion headers id ending) = ending_depth ending
content_depth (StreamInvocation headers id target arguments streams) = depth (tree.list (trees arguments))
content_depth m = 0

-- in a frame, which is one level more, the message nests at most 64 deep
abbrev pub Fits : Message → Type 0
Fits m = content_depth m ≤ 63

-- ---- the image of a message: each of its bytes becomes the text of their base64

-- the value that stands for a tree
abbrev pub value_of : Tree → Value
value_of tree.null = value.Null
value_of (tree.boolean b) = value.Bool b
value_of (tree.int z) = value.Int z
value_of (tree.text s) = value.Text s
value_of (tree.bytes s) = value.Bytes s
value_of (tree.list ts) = value.List (trees_in ts)
value_of (tree.map ps) = value.Map (pairs_in ps)

abbrev pub value_image : Value → Value
value_image v = value_of (image (seen.tree v))

abbrev pub ending_image : Ending → Ending
ending_image Void = Void
ending_image (Result v) = Result (value_image v)
ending_image (Error s) = Error s

abbrev pub message_image : Message → Message
message_image (Invocation headers id target arguments streams) = Invocation headers id target (images arguments) streams
message_image (StreamItem headers id item) = StreamItem headers id (value_image item)
message_image (Completion headers id ending) = Completion headers id (ending_image ending)
message_image (StreamInvocation headers id target arguments streams) = StreamInvocation headers id target (images arguments) streams
message_image m = m
