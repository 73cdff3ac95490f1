-- What a first look at a lane gives, before its turn.
use Rattle.std.specs.Prelude.{◌≡◌, ◌≤◌, ℕ, List, [], ◌∷◌, None, Some, IfSome, ⊤, take, option_map, slice_index_or}
use Rattle.hw_door.specs.Traffic.{Answer}
use Rattle.hw_net.specs.declared.first_read.FirstRead.{FirstRead}
use Rattle.hw_net.specs.declared.first_read.FirstRead.TheVariants.{Unread, NothingRead, Read}
use Rattle.hw_net.specs.declared.limits.TheConstants.{PIECE}
use Rattle.hw_net.specs.declared.protocol.Protocol.{Protocol}
use Rattle.hw_net.specs.declared.protocol.Protocol.TheVariants.{Http, Response, Socket}
use Rattle.hw_net.specs.declared.protocol.Stage.TheVariants.{Live}
use Rattle.hw_net.specs.HttpState.{IsCalm as IsCalmHttp}
use Rattle.hw_net.specs.Lane.{Lane}
use Rattle.hw_net.specs.WebSocketState.{IsCalm}
use Rattle.hw_net.specs.Trace.{Reads}

abbrev pub IsCalmProtocol : Protocol → Type 0
IsCalmProtocol (Http http_state) = IsCalmHttp http_state
IsCalmProtocol (Response response_state) = ⊥
IsCalmProtocol (Socket websocket_state) = IsCalm websocket_state

-- nothing is to be heard on the lane before more bytes come, and nothing to be written
pub record IsCalmLane (lane : Lane) : Type 0 where
  pub live : lane.stage ≡ Live
  pub protocol : IsCalmProtocol lane.protocol
  pub out : lane.out ≡ []
  pub full : lane.full ≡ None

-- a look: the wire is read only of a calm lane, and what it gave stands in front of the buffer then
abbrev pub ReadsFirst : Lane → List Answer → List ℕ → FirstRead → Type 0
ReadsFirst lane answers buf Unread = answers ≡ []
ReadsFirst lane answers buf NothingRead = IsCalmLane lane × ((answer : Answer) × (answers ≡ answer ∷ []) × Reads lane.wire PIECE answer (Some []))
ReadsFirst lane answers buf (Read read) =
    IsCalmLane lane × ((answer : Answer) × (answers ≡ answer ∷ []) × Reads lane.wire PIECE answer (option_map (λ count. take count buf) read))

-- the same of the lane of this place
abbrev pub ReadsFirstAt : ℕ → List Lane → List Answer → List ℕ → FirstRead → Type 0
ReadsFirstAt index lanes answers buf first_look =
    (lane : Lane) × (slice_index_or lanes index lane ≡ lane) × ReadsFirst lane answers buf first_look

-- no more bytes were read than the buffer has
abbrev pub IsWithin : FirstRead → Type 0
IsWithin Unread = ⊤
IsWithin NothingRead = ⊤
IsWithin (Read read) = IfSome read (λ count. count ≤ PIECE)
