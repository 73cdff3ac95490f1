-- What is known of each lane while it stands among others.
use Rattle.std.specs.Prelude.{◌≡◌, ◌<◌, ℕ, false, List}
use Rattle.std.specs.List.{All}
use Rattle.hw_net.specs.declared.protocol.Protocol.{Protocol}
use Rattle.hw_net.specs.declared.protocol.Protocol.TheVariants.{Http, Response, Socket}
use Rattle.hw_net.specs.declared.tally.Tally.{Tally}
use Rattle.hw_net.specs.HttpState.{IsHttpState}
use Rattle.hw_net.specs.ResponseState.{IsResponseState}
use Rattle.hw_net.specs.Lane.{Lane, is_overdue}
use Rattle.hw_net.specs.Tally.{tally_of}
use Rattle.hw_net.specs.WebSocketState.{IsWebSocketState}
use Rattle.hw_net.specs.Writers.{IsListOf}
use Rattle.hw_net.specs.declared.writers.Writers.{Writers}

-- what holds of all that lanes speak
abbrev pub IsSound : Protocol → Type 0
IsSound (Http http_state) = IsHttpState http_state.lane http_state.busy http_state.has_unparsed
IsSound (Response response_state) =
    IsResponseState response_state.lane response_state.upgrade response_state.concluded response_state.accepted response_state.has_unparsed
IsSound (Socket websocket_state) =
    IsWebSocketState websocket_state.lane websocket_state.wants_read websocket_state.lost_bytes

-- that, and that the lane isn't overdue before this moment
pub record IsKnown (due : ℕ) (lane : Lane) : Type 0 where
  pub sound : IsSound lane.protocol
  pub in_time : (now : ℕ) → now < due → is_overdue now lane ≡ false

-- the lanes are counted, none is overdue before this moment, and those that have something to write are listed
pub record AreKept (tally : Tally) (due : ℕ) (writers : Writers) (lanes : List Lane) : Type 0 where
  pub counted : tally ≡ tally_of lanes
  pub known : All (IsKnown due) lanes
  pub listed : IsListOf writers lanes
