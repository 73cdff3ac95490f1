-- A message's properties in the order in which they are written, and their tokens.
use Rattle.std.specs.Prelude.{◌≡◌, pos, List, [], ◌∷◌, ◌++◌}
use Rattle.json.specs.Token.{Token}
use Rattle.hv_value.specs.Tree.{int, text, list, trees, Pair, pairs}
use Rattle.hv_value.specs.View as seen
use Rattle.hv_value.specs.Order.{PairsInOrder}
use Rattle.hv_json.specs.Sent.{sent, PairsHaveWholes}
use Rattle.hm_message.specs.Kind.{number, kind_of}
use Rattle.hm_message.specs.declared.message.Field.TheVariants as field
use Rattle.hm_message.specs.declared.message.Message.{Message}
use Rattle.hm_message.specs.declared.message.Message.TheVariants.{Invocation, StreamItem, Completion, StreamInvocation, CancelInvocation, Ping, Close, Ack, Sequence}
use Rattle.hm_message.specs.declared.message.Ending.{Ending}
use Rattle.hm_message.specs.declared.message.Ending.TheVariants as ending
use Rattle.hm_json.specs.Frame.{property_of, headers_written, streams_written, text_written, received_written, allow_written}

-- the error of a Completion that has one
abbrev pub error_written : Ending → List Pair
error_written ending.Void = []
error_written (ending.Result v) = []
error_written (ending.Error s) = property_of field.Error (text s)

-- the result of a Completion that has one
abbrev pub result_written : Ending → List Pair
result_written ending.Void = []
result_written (ending.Result v) = property_of field.Ending (seen.tree v)
result_written (ending.Error s) = []

-- the message's properties other than its type, in byte order of their names
abbrev pub properties_in_order : Message → List Pair
properties_in_order (Invocation headers id target arguments streams) =
    property_of field.Arguments (list (trees arguments)) ++ headers_written headers ++ text_written field.InvocationId id
    ++ streams_written streams ++ property_of field.Target (text target)
properties_in_order (StreamItem headers id item) =
    headers_written headers ++ property_of field.InvocationId (text id) ++ property_of field.Item (seen.tree item)
properties_in_order (Completion headers id end) =
    error_written end ++ headers_written headers ++ property_of field.InvocationId (text id) ++ result_written end
properties_in_order (StreamInvocation headers id target arguments streams) =
    property_of field.Arguments (list (trees arguments)) ++ headers_written headers ++ property_of field.InvocationId (text id)
    ++ streams_written streams ++ property_of field.Target (text target)
properties_in_order (CancelInvocation headers id) = headers_written headers ++ property_of field.InvocationId (text id)
properties_in_order Ping = []
properties_in_order (Close error allow) = allow_written allow ++ text_written field.Error error
properties_in_order (Ack upto) = property_of field.SequenceId (int (pos upto))
properties_in_order (Sequence first received) = received_written received ++ property_of field.SequenceId (int (pos first))

-- the properties of the message's object in byte order of their names: the type is the last of them
abbrev pub in_name_order : Message → List Pair
in_name_order m = properties_in_order m ++ property_of field.Kind (int (number (kind_of m)))

-- the tokens of properties, with no bracket round them
abbrev pub tokens_of : List Pair → List Token
tokens_of [] = []
tokens_of (p ∷ ps) = Token.key p.0 ∷ (sent p.1 ++ tokens_of ps)

-- the properties were written behind what had been written, and can be read again
pub record Puts (old new : List Token) (ps : List Pair) : Type 0 where
  pub tokens : new ≡ old ++ tokens_of ps
  pub wholes : PairsHaveWholes (pairs ps)
  pub in_order : PairsInOrder (pairs ps)
