-- What the connections of a server are: each the server's side of every world in which its end stands.
use Rattle.std.specs.Prelude.{◌≡◌, ℕ, List, Some}
use Rattle.hd_delivery.specs.declared.vocabulary.Side.{Side}
use Rattle.hd_delivery.specs.declared.vocabulary.Side.TheVariants.{Client}
use Rattle.hd_delivery.specs.Histories.{sent_messages}
use Rattle.hd_delivery.specs.Worlds.{Limits, Terms, Event, server_of}
use Rattle.hd_delivery.specs.Bytes.{ByteStep, IsFaithful, IsWorldOverBytes, DeliveryOverBytes, client_in_frames}
use Rattle.hd_calls.specs.Hubs.{Hub}
use Rattle.hd_calls.specs.Peers.{PeerEvent, Settings, byte_steps}
use Rattle.hd_calls.specs.Rules.{IsPeer}
use Rattle.hd_server.specs.Machine.{moves, settings_of}
use Rattle.hd_server.specs.Doings.{ServerEvent, work}

-- In every world of which these moves are the server's side, over readers that are faithful to what the client sends there, what each of the
-- two processed is a first part of what the other sent, each message once and in order, and all of it once both are still
abbrev pub Delivers : Settings → List PeerEvent → Type 0
Delivers t moves = (limits : Side → Limits) (terms : Terms) (w : List (Event ByteStep)) → server_of w ≡ byte_steps t moves
    → IsFaithful (limits Client) t.wire terms.codec terms.version (sent_messages (client_in_frames t.wire terms w))
    → IsWorldOverBytes limits t.wire terms w → DeliveryOverBytes t.wire terms w

-- each connection did what a peer of the hub can do, and delivers
pub record AreSides {Job : Type 0} (hub : Hub Job) (h : List ServerEvent) : Type 0 where
  pub peers : (c : ℕ) (t : Settings) → settings_of c (work h) ≡ Some t → IsPeer hub t (moves c (work h))
  pub deliver : (c : ℕ) (t : Settings) → settings_of c (work h) ≡ Some t → Delivers t (moves c (work h))
