-- How a lane says that it ends.
use Rattle.std.specs.Prelude.{ℕ, Option, None, Some}
use Rattle.std.specs.Int.{w16, to_be_bytes}
use Rattle.websocket.specs.declared.error.Error.{Error}
use Rattle.websocket.specs.declared.protocol.state.WebSocketState.{WebSocketState}
use Rattle.websocket.specs.declared.protocol.frame.coding.OpCode.TheVariants as Op
use Rattle.websocket.specs.declared.protocol.frame.coding.Control.TheVariants.{Close}
use Rattle.websocket.specs.Connection.{Connection, Outgoing}
use Rattle.hw_socket.specs.Masks.{Written, after_frame}
use Rattle.hw_socket.specs.declared.vocabulary.Ending.{Ending}
use Rattle.hw_socket.specs.declared.vocabulary.Ending.TheVariants.{Shut, Answered, TooLong, NotText, Breach, BadText, NoMemory}

-- the status that a lane's close frame has (RFC 6455, 7.4.1)
abbrev pub status_of : Option Ending → ℕ
status_of None = 1000
status_of (Some Shut) = 1000
status_of (Some Answered) = 1000
status_of (Some TooLong) = 1009
status_of (Some NotText) = 1007
status_of (Some Breach) = 1002
status_of (Some BadText) = 1000
status_of (Some NoMemory) = 1000

-- why a lane ends whose connection refuses what came
abbrev pub ending_of : Error → Ending
ending_of (Error.Capacity cause) = TooLong
ending_of Error.Utf8 = NotText
ending_of (Error.Protocol cause) = Breach
ending_of Error.ConnectionClosed = Breach
ending_of Error.AlreadyClosed = Breach
ending_of Error.OutOfMemory = NoMemory

-- a close frame with this status and no reason (RFC 6455, 5.5.1)
abbrev pub close_frame : ℕ → Outgoing
close_frame status = record { opcode = Op.Control Close; payload = to_be_bytes w16 status }

-- the connection after a close, which leads to this state where a close frame is still to be sent
abbrev pub closed : Connection → Option WebSocketState → Connection
closed conn None = conn
closed conn (Some state) = record conn { state = state }

-- what is written by a close, which leads to this state where a close frame is still to be sent
abbrev pub after_close : Written → ℕ → Option WebSocketState → Written
after_close w status None = w
after_close w status (Some state) = after_frame w (close_frame status)
