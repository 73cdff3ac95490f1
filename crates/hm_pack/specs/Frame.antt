-- The frame that is written for a message (HubProtocol.md, "MessagePack (MsgPack) encoding").
use Rattle.std.specs.Prelude.{ℕ, pos, List, [], ◌∷◌, Option, Some, None}
use Rattle.hv_value.specs.Tree.{Tree, null, boolean, int, text, list, map, trees, pairs}
use Rattle.hv_value.specs.View as seen
use Rattle.hv_pack.specs.Writing.{shortest}
use Rattle.hm_message.specs.Headers.{Header}
use Rattle.hm_message.specs.Kind.{number, kind_of}
use Rattle.hm_message.specs.Trees.{texts, header_pairs}
use Rattle.hm_message.specs.declared.message.Message.{Message}
use Rattle.hm_message.specs.declared.message.Message.TheVariants.{Invocation, StreamItem, Completion, StreamInvocation, CancelInvocation, Ping, Close, Ack, Sequence}
use Rattle.hm_message.specs.declared.message.Ending.{Ending}
use Rattle.hm_message.specs.declared.message.Ending.TheVariants as ending

abbrev pub headers_written : List Header → Tree
headers_written hs = map (pairs (header_pairs hs))

abbrev pub text_written : Option (List ℕ) → Tree
text_written None = null
text_written (Some s) = text s

abbrev pub received_written : Option ℕ → List Tree
received_written None = []
received_written (Some n) = int (pos n) ∷ []

-- the result kind, and what stands behind it
abbrev pub ending_written : Ending → List Tree
ending_written (ending.Error s) = int (pos 1) ∷ text s ∷ []
ending_written ending.Void = int (pos 2) ∷ []
ending_written (ending.Result v) = int (pos 3) ∷ seen.tree v ∷ []

-- what is called, and with what
abbrev pub call_written : List ℕ → List Tree → List (List ℕ) → List Tree
call_written target arguments streams = text target ∷ list (trees arguments) ∷ list (trees (texts streams)) ∷ []

-- what a writer puts behind the type: all elements, also those that are empty, absent or false, but for `received`
abbrev pub written : Message → List Tree
written (Invocation headers id target arguments streams) = headers_written headers ∷ text_written id ∷ call_written target arguments streams
written (StreamItem headers id item) = headers_written headers ∷ text id ∷ seen.tree item ∷ []
written (Completion headers id end) = headers_written headers ∷ text id ∷ ending_written end
written (StreamInvocation headers id target arguments streams) = headers_written headers ∷ text id ∷ call_written target arguments streams
written (CancelInvocation headers id) = headers_written headers ∷ text id ∷ []
written Ping = []
written (Close error allow) = text_written error ∷ boolean allow ∷ []
written (Ack upto) = int (pos upto) ∷ []
written (Sequence first received) = int (pos first) ∷ received_written received

abbrev pub elements_of : Message → List Tree
elements_of m = int (number (kind_of m)) ∷ written m

-- the message's array
abbrev pub array_of : Message → Tree
array_of m = list (trees (elements_of m))

-- the message's frame
abbrev pub frame_of : Message → List ℕ
frame_of m = shortest (array_of m)
