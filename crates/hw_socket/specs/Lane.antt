-- A WebSocket lane as a contract sees it.
use Rattle.std.specs.Prelude.{◌≡◌, ℕ, List, [], Option, None, Some, false, refl}
use Rattle.std.specs.Coded.{Coded, code_by, coded×, coded_ℕ, coded_list, coded_option}
use Rattle.websocket.specs.declared.protocol.config.WebSocketConfig.{WebSocketConfig}
use Rattle.websocket.specs.declared.protocol.state.WebSocketState.TheVariants as State
use Rattle.websocket.specs.Connection.{Connection, IsDoneSending}
use Rattle.websocket.specs.Codes.{connection_code}
use Rattle.hw_socket.specs.declared.vocabulary.SocketSide.{SocketSide}
use Rattle.hw_socket.specs.declared.vocabulary.Ending.{Ending}
use Rattle.hw_socket.specs.declared.vocabulary.Ending.TheVariants.{Answered}
use Rattle.hw_socket.specs.declared.vocabulary.TheConstants.{MOST_MESSAGE}
use Rattle.hw_socket.specs.contracts.vocabulary.Ending as ending_type
use Rattle.hw_socket.specs.Masks.{Written, written_code}
use Rattle.hw_socket.specs.Messages.{role_of, AreWithin}

pub record Lane : Type 0 where
  -- the state of the protocol, with what came of a message in fragments
  pub conn : Connection
  -- the bytes that were fed and that no frame has taken
  pub unread : List ℕ
  -- the bytes to be written, and how many frames were written
  pub out : Written
  -- why the lane is gone, if it is
  pub ending : Option Ending

abbrev pub lane_code : Coded Lane
lane_code =
    code_by (Connection × (List ℕ × (Written × Option Ending)))
    (coded× connection_code (coded× (coded_list coded_ℕ) (coded× written_code (coded_option ending_type.the_row.coded))))
    (λ l. (l.conn, (l.unread, (l.out, l.ending))))
    (λ p. record { conn = p.0; unread = p.1.0; out = p.1.1.0; ending = p.1.1.1 })
    (λ _. refl)

-- the limits on what comes
abbrev pub limits : WebSocketConfig
limits = record { max_message_size = Some MOST_MESSAGE; max_frame_size = Some MOST_MESSAGE; accept_unmasked_frames = false }

-- a lane of a WebSocket whose opening handshake is done (RFC 6455, 4), before any byte
abbrev pub fresh_lane : SocketSide → Lane
fresh_lane side = record {
  conn = record { role = role_of side; state = State.Active; config = limits; fragments = None };
  unread = [];
  out = record { side = side; frames = 0; bytes = [] };
  ending = None;
}

-- what holds of every lane: its side and limits, that it can send while it isn't gone, that it wrote its close frame if it answered one,
-- and that no unfinished message is past the limit
pub record IsSound (conn : Connection) (side : SocketSide) (ending : Option Ending) : Type 0 where
  pub role : conn.role ≡ role_of side
  pub config : conn.config ≡ limits
  pub active : ending ≡ None → conn.state ≡ State.Active
  pub answered : ending ≡ Some Answered → IsDoneSending conn.state
  pub within : AreWithin MOST_MESSAGE conn.fragments
