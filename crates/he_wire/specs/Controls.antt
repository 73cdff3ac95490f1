-- What an end says of itself.
use Rattle.std.specs.Prelude.{ℕ, Bool, true, false, List, [], ◌++◌, codes, Option, Some, None}
use Rattle.hm_message.specs.declared.message.Message.{Message}
use Rattle.hm_message.specs.declared.message.Message.TheVariants as message
use Rattle.hd_delivery.specs.Frames.{LinkFrame, frame_of, error_of}
use Rattle.he_wire.specs.declared.control_buffer.Control.{Control}
use Rattle.he_wire.specs.declared.control_buffer.Control.TheVariants.{Ack, Sequence, Ping, Close}

-- no control frame has more bytes with its framing
abbrev pub most_control : ℕ
most_control = 77

-- the message that says it
abbrev pub message_of : Control → Message
message_of (Ack upto) = message.Ack upto
message_of (Sequence first received) = message.Sequence first received
message_of Ping = message.Ping
message_of (Close reason allow) = message.Close (error_of reason) allow

-- the frame that says it
abbrev pub frame_of_control : Control → LinkFrame
frame_of_control control = frame_of (message_of control)

-- ---- the properties of a Close in JSON, each with the comma after it

abbrev pub allow_text : Bool → List ℕ
allow_text true = codes "\"allowReconnect\":true,"
allow_text false = []

-- nothing in the error is escaped
abbrev pub error_text : Option (List ℕ) → List ℕ
error_text None = []
error_text (Some text) = codes "\"error\":\"" ++ (text ++ codes "\",")
