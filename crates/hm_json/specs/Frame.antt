-- The frame that is written for a message (HubProtocol.md, "JSON Encoding").
use Rattle.std.specs.Prelude.{ℕ, pos, Bool, true, false, List, [], ◌∷◌, ◌++◌, codes, Option, Some, None}
use Rattle.hv_value.specs.Tree.{Tree, boolean, int, text, list, map, trees, pairs, map_of, Pair}
use Rattle.hv_value.specs.View as seen
use Rattle.hv_json.specs.Writing.{json_text}
use Rattle.hm_message.specs.Headers.{Header}
use Rattle.hm_message.specs.Kind.{number, kind_of}
use Rattle.hm_message.specs.Trees.{texts, header_pairs}
use Rattle.hm_message.specs.Name.{field_name}
use Rattle.hm_message.specs.declared.message.Field.{Field}
use Rattle.hm_message.specs.declared.message.Field.TheVariants as field
use Rattle.hm_message.specs.declared.message.Message.{Message}
use Rattle.hm_message.specs.declared.message.Message.TheVariants.{Invocation, StreamItem, Completion, StreamInvocation, CancelInvocation, Ping, Close, Ack, Sequence}
use Rattle.hm_message.specs.declared.message.Ending.{Ending}
use Rattle.hm_message.specs.declared.message.Ending.TheVariants as ending

abbrev pub property_of : Field → Tree → List Pair
property_of f t = (field_name f, t) ∷ []

abbrev pub headers_written : List Header → List Pair
headers_written [] = []
headers_written (h ∷ hs) = property_of field.Headers (map (pairs (header_pairs (h ∷ hs))))

abbrev pub streams_written : List (List ℕ) → List Pair
streams_written [] = []
streams_written (s ∷ ss) = property_of field.StreamIds (list (trees (texts (s ∷ ss))))

abbrev pub text_written : Field → Option (List ℕ) → List Pair
text_written f None = []
text_written f (Some s) = property_of f (text s)

abbrev pub received_written : Option ℕ → List Pair
received_written None = []
received_written (Some n) = (codes "received", int (pos n)) ∷ []

abbrev pub allow_written : Bool → List Pair
allow_written true = property_of field.AllowReconnect (boolean true)
allow_written false = []

abbrev pub ending_written : Ending → List Pair
ending_written ending.Void = []
ending_written (ending.Result v) = property_of field.Ending (seen.tree v)
ending_written (ending.Error s) = property_of field.Error (text s)

-- what is called, and with what
abbrev pub call_written : List ℕ → List Tree → List (List ℕ) → List Pair
call_written target arguments streams =
    property_of field.Target (text target) ++ property_of field.Arguments (list (trees arguments)) ++ streams_written streams

-- what a writer puts into the object beside the type: what is empty, absent or false is left out
abbrev pub written : Message → List Pair
written (Invocation headers id target arguments streams) =
    headers_written headers ++ text_written field.InvocationId id ++ call_written target arguments streams
written (StreamItem headers id item) =
    headers_written headers ++ property_of field.InvocationId (text id) ++ property_of field.Item (seen.tree item)
written (Completion headers id end) =
    headers_written headers ++ property_of field.InvocationId (text id) ++ ending_written end
written (StreamInvocation headers id target arguments streams) =
    headers_written headers ++ property_of field.InvocationId (text id) ++ call_written target arguments streams
written (CancelInvocation headers id) = headers_written headers ++ property_of field.InvocationId (text id)
written Ping = []
written (Close error allow) = text_written field.Error error ++ allow_written allow
written (Ack upto) = property_of field.SequenceId (int (pos upto))
written (Sequence first received) = property_of field.SequenceId (int (pos first)) ++ received_written received

-- the message's object
abbrev pub object_of : Message → Tree
object_of m = map_of (property_of field.Kind (int (number (kind_of m))) ++ written m)

-- the message's frame
abbrev pub frame_of : Message → List ℕ
frame_of m = json_text (object_of m)
