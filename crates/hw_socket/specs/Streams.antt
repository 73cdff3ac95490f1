-- All that a lane writes in a session: frames.
use Rattle.std.specs.Prelude.{◌≡◌, ◌≢◌, ◌≤◌, ⊤, ℕ, ◌+◌, ◌%◌, ◌^◌, Bool, true, if◌then◌else◌, List, [], ◌∷◌, ◌++◌, length, Ok, Option, None, Some, is_some, IsUtf8}
use Rattle.std.specs.Int.{w16, to_be_bytes}
use Rattle.websocket.specs.declared.protocol.frame.coding.CloseCode.{CloseCode}
use Rattle.websocket.specs.declared.protocol.frame.coding.OpCode.TheVariants as Op
use Rattle.websocket.specs.declared.protocol.frame.coding.Control.TheVariants as Control
use Rattle.websocket.specs.Connection.{Outgoing, decode_close}
use Rattle.websocket.specs.Content.{content_opcode}
use Rattle.hw_socket.specs.declared.vocabulary.Ending.{Ending}
use Rattle.hw_socket.specs.declared.vocabulary.Ending.TheVariants.{Answered}
use Rattle.hw_socket.specs.declared.vocabulary.SocketSide.{SocketSide}
use Rattle.hw_socket.specs.Closing.{status_of}
use Rattle.hw_socket.specs.Masks.{mask_of, with_mask}
use Rattle.hw_socket.specs.Messages.{content}
use Rattle.hw_socket.specs.Sending.{Sent}

-- a frame that a lane writes
pub data Frame : Type 0 where
  Message : (message : Sent) → Frame
  Pong : (payload : List ℕ) → Frame
  Close : (payload : List ℕ) → Frame

-- the frame before it is masked
abbrev pub outgoing : Frame → Outgoing
outgoing (Message m) = record { opcode = content_opcode (content m.is_text m.bytes); payload = m.bytes }
outgoing (Pong payload) = record { opcode = Op.Control Control.Pong; payload = payload }
outgoing (Close payload) = record { opcode = Op.Control Control.Close; payload = payload }

-- the bytes of a side's frames from its frame n on, each with the mask of its number
abbrev pub stream : SocketSide → ℕ → List Frame → List ℕ
stream side n [] = []
stream side n (frame ∷ frames) = with_mask (mask_of side n) (outgoing frame) ++ stream side ((n + 1) % 2 ^ 64) frames

-- the messages among the frames
abbrev pub messages : List Frame → List Sent
messages [] = []
messages (Message m ∷ frames) = m ∷ messages frames
messages (_ ∷ frames) = messages frames

-- a control frame's payload (RFC 6455, 5.5)
abbrev pub IsControlPayload : List ℕ → Type 0
IsControlPayload payload = length payload ≤ 125

-- a close frame's payload (RFC 6455, 5.5.1): nothing, or a status and a reason that is UTF-8
abbrev pub IsClosePayload : List ℕ → Type 0
IsClosePayload payload = IsControlPayload payload × ((reason : Option (CloseCode × List ℕ)) × (decode_close payload ≡ Ok reason))

-- texts are UTF-8, control frames are short, and nothing comes after a close frame (RFC 6455, 5.5.1)
abbrev pub AreLegal : List Frame → Type 0
AreLegal [] = ⊤
AreLegal (Message m ∷ frames) = (m.is_text ≡ true → IsUtf8 m.bytes) × AreLegal frames
AreLegal (Pong payload ∷ frames) = IsControlPayload payload × AreLegal frames
AreLegal (Close payload ∷ frames) = IsClosePayload payload × (frames ≡ [])

-- the payload of the close frame, if there is one
abbrev pub close_of : List Frame → Option (List ℕ)
close_of [] = None
close_of (Close payload ∷ frames) = Some payload
close_of (_ ∷ frames) = close_of frames

-- the close frame that a lane has written: none while it isn't gone, one if it answered a close, else one once it was shut, whose status
-- says why the lane is gone
abbrev pub ClosesAs : Option Ending → Bool → List Frame → Type 0
ClosesAs ending was_shut frames =
    (ending ≡ None → close_of frames ≡ None)
    × (ending ≡ Some Answered → is_some (close_of frames) ≡ true)
    × ((why : Ending) → ending ≡ Some why → why ≢ Answered → close_of frames ≡ (if was_shut then Some (to_be_bytes w16 (status_of (Some why))) else None))
