-- What a lane does in one call of a door or of a dialer.
use Rattle.std.specs.Prelude.{◌≡◌, ◌==◌, ℕ, Bool, true, false, List, [], ◌∷◌, ◌++◌, Option, None, Some, ⊤}
use Rattle.hw_lanes.specs.declared.http.Reply.{Reply}
use Rattle.hh_http.specs.Asks.{request_grammar}
use Rattle.hh_http.specs.Messages.{Refuses}
use Rattle.hh_http.specs.Texts.{reply_text}
use Rattle.hw_door.specs.declared.heard.Event.{Event}
use Rattle.hw_door.specs.declared.heard.Event.TheVariants as event
use Rattle.hw_door.specs.Traffic.{Answer, was_shut}
use Rattle.hw_socket.specs.Lane as socket
use Rattle.hw_socket.specs.Sending as sending
use Rattle.hw_net.specs.declared.input.Input.{Input}
use Rattle.hw_net.specs.declared.input.Input.TheVariants as input
use Rattle.hw_net.specs.declared.protocol.Protocol.{Protocol}
use Rattle.hw_net.specs.declared.protocol.Protocol.TheVariants.{Http, Response, Socket}
use Rattle.hw_net.specs.declared.protocol.Stage.{Stage}
use Rattle.hw_net.specs.declared.protocol.Stage.TheVariants.{Live, Lost, Closing, Over}
use Rattle.hw_net.specs.Trace.{Chooses}
use Rattle.hw_net.specs.HttpState.{HearsHttp}
use Rattle.hw_net.specs.ResponseState.{HearsResponse}
use Rattle.hw_net.specs.WebSocketState.{HearsWebSocket}
use Rattle.hw_net.specs.Lane.{Lane, is_live, is_drained, is_stalled, owes, is_overdue, refusal_of, protocol_after_shut, protocol_after_upgrade, after_hearing, after_message, after_reply, after_turn}
use Rattle.hw_net.specs.Saying.{WritesOut, Says, SaysIfEnded, SaysMore, GathersOrSays}

-- ---- hearing

-- what a lane hears of its wire in one turn
abbrev pub Hears : ℕ → Protocol → Protocol → List Answer → Input → Type 0
Hears wire (Http before) (Http after) answers heard = HearsHttp wire before after answers heard
Hears wire (Response before) (Response after) answers heard = HearsResponse wire before after answers heard
Hears wire (Socket before) (Socket after) answers heard = HearsWebSocket wire before after answers heard
Hears wire _ _ answers heard = ⊥

-- a refusal is one of what is held
abbrev pub IsRightInput : Protocol → Input → Type 0
IsRightInput (Http http_state) (input.Refused refusal) = Refuses request_grammar http_state.lane.held refusal
IsRightInput (Response response_state) (input.Refused refusal) = ⊥
IsRightInput (Socket websocket_state) (input.Refused refusal) = ⊥
IsRightInput protocol _ = ⊤

-- the wire is shut, and the loss of the lane is heard
abbrev pub Falls : Lane → Lane → List Answer → Option Event → Type 0
Falls before after answers heard =
    (answers ≡ was_shut before.wire ∷ []) × (heard ≡ Some (event.Lost before.wire)) × (after ≡ record before { stage = Over })

-- nothing is done on the wire, and this is heard
abbrev pub Passes : Lane → Lane → List Answer → Option Event → Option Event → Type 0
Passes becomes after answers trace heard = (answers ≡ []) × (heard ≡ trace) × (after ≡ becomes)

-- The event that is heard of the input. A lane that has waited for too long is lost, what is no request is answered, a lane whose upgrade was accepted
-- is a WebSocket, and a WebSocket that is gone says so. One that answers what is no request, or is gone, closes from this moment on.
abbrev pub Settles : ℕ → Lane → Lane → List Answer → Input → Option Event → Type 0
Settles now before after answers input.Nothing heard =
    Chooses (is_overdue now before) (Falls before after answers heard) (Passes before after answers None heard)
Settles now before after answers (input.Request request) heard = Passes before after answers (Some (event.Request before.wire request)) heard
Settles now before after answers (input.Refused refusal) heard =
    Passes (record before { since = now; out = before.out ++ reply_text (refusal_of refusal); stage = Closing }) after answers (Some (event.Refused before.wire refusal)) heard
Settles now before after answers (input.Response status body) heard = Passes before after answers (Some (event.Response before.wire status body)) heard
Settles now before after answers input.Upgraded heard =
    Passes (record before { protocol = protocol_after_upgrade before.protocol }) after answers (Some (event.Upgraded before.wire)) heard
Settles now before after answers (input.Message bytes) heard = Passes before after answers (Some (event.Bytes before.wire bytes)) heard
Settles now before after answers input.Broken heard = Falls before after answers heard
Settles now before after answers input.Gone heard =
    Passes (record before { since = now; protocol = protocol_after_shut before.protocol; stage = Closing }) after answers (Some (event.Lost before.wire)) heard

-- a lane whose wire was shut meanwhile is heard as lost, if nothing else is heard of it
abbrev pub LosesAt : Stage → Lane → Lane → Option Event → Type 0
LosesAt Lost before after heard = (heard ≡ Some (event.Lost before.wire)) × (after ≡ record before { stage = Over })
LosesAt _ before after heard = (heard ≡ None) × (after ≡ before)

abbrev pub Loses : Option Event → Lane → Lane → Option Event → Type 0
Loses None before after heard = LosesAt before.stage before after heard
Loses (Some trace) before after heard = (heard ≡ Some trace) × (after ≡ before)

-- One turn of a live lane: it hears an input, says a 100 if a request waits for one, the input becomes the event, and what waits is written.
pub record TurnsLive (now : ℕ) (before after : Lane) (answers : List Answer) (heard : Option Event) : Type 0 where
  pub input : Input
  pub protocol : Protocol
  pub settled : Lane
  pub said : Lane
  pub trace : Option Event
  pub read : List Answer
  pub shut : List Answer
  pub written : List Answer
  pub all : answers ≡ read ++ (shut ++ written)
  pub hears : Hears before.wire before.protocol protocol read input
  pub settles : Settles now (after_hearing protocol before) settled shut input trace
  pub says : Says now settled said written
  pub loses : Loses trace said after heard

-- a lane that was full isn't any more, which is heard, and what is left is written
abbrev pub Drains : ℕ → Lane → Lane → List Answer → Option Event → Type 0
Drains now before after answers heard = (heard ≡ Some (event.Drained before.wire)) × Says now (record before { full = None }) after answers

-- a live lane takes its turn, and then what was written on it counts from this moment
abbrev pub TurnsOn : ℕ → Lane → Lane → List Answer → Option Event → Type 0
TurnsOn now before after answers heard = (mid : Lane) × TurnsLive now before mid answers heard × (after ≡ after_turn now mid)

-- one that is full and has drained, or has stalled, says so and hears nothing else
abbrev pub TurnsByFullness : ℕ → Lane → Lane → List Answer → Option Event → Type 0
TurnsByFullness now before after answers heard =
    Chooses (is_drained before) (Drains now before after answers heard)
    (Chooses (is_stalled before) (Falls before after answers heard) (TurnsOn now before after answers heard))

abbrev pub TurnsAt : Stage → ℕ → Lane → Lane → List Answer → Option Event → Type 0
TurnsAt Live now before after answers heard = TurnsByFullness now before after answers heard
TurnsAt Lost now before after answers heard = Passes (record before { stage = Over }) after answers (Some (event.Lost before.wire)) heard
TurnsAt Closing now before after answers heard = (heard ≡ None) × Says now before after answers
TurnsAt Over now before after answers heard = Passes before after answers None heard

-- a lane's turn while nothing was heard in this call
abbrev pub Listens : ℕ → Lane → Lane → List Answer → Option Event → Type 0
Listens now before after answers heard = TurnsAt before.stage now before after answers heard

-- a lane's turn in a call in which this was heard: once something was, it only writes, and that only if it is heard no more
abbrev pub Turns : ℕ → Option Event → Lane → Lane → List Answer → Option Event → Type 0
Turns now None before after answers heard = Listens now before after answers heard
Turns now (Some trace) before after answers heard = (heard ≡ Some trace) × SaysIfEnded now before after answers

-- the turns of lanes, the first first
abbrev pub TurnAll : ℕ → Option Event → List Lane → List Lane → List Answer → Option Event → Type 0
TurnAll now trace [] after answers heard = (after ≡ []) × (answers ≡ []) × (heard ≡ trace)
TurnAll now trace (lane ∷ lanes) after answers heard =
    (mid : Option Event) × (next : Lane) × (rest : List Lane) × (first : List Answer) × (more : List Answer)
    × (after ≡ next ∷ rest) × (answers ≡ first ++ more) × Turns now trace lane next first mid × TurnAll now mid lanes rest more heard

-- ---- saying

-- a lane is given a reply at this moment. If none is waited for, nothing is said
abbrev pub Replies : ℕ → Reply → Lane → Lane → List Answer → Type 0
Replies now reply before after answers =
    Chooses (owes before) (SaysMore (after_reply now reply before) after answers) ((answers ≡ []) × (after ≡ before))

-- a message is added to what waits of a live WebSocket, unless that is gone; another lane takes none
abbrev pub PutsAt : Bool → Protocol → List ℕ → Bool → Lane → Lane → Bool → Type 0
PutsAt true (Socket websocket_state) bytes text before after is_put =
    (lane : socket.Lane) × sending.Says websocket_state.lane lane bytes text is_put × (after ≡ record before { protocol = Socket (record websocket_state { lane = lane }) })
PutsAt true (Http http_state) bytes text before after is_put = (is_put ≡ false) × (after ≡ before)
PutsAt true (Response response_state) bytes text before after is_put = (is_put ≡ false) × (after ≡ before)
PutsAt false protocol bytes text before after is_put = (is_put ≡ false) × (after ≡ before)

abbrev pub Puts : List ℕ → Bool → Lane → Lane → Bool → Type 0
Puts bytes text before after is_put = PutsAt (is_live before.stage) before.protocol bytes text before after is_put

-- a lane is given a message at this moment: if that was added, what waits is gathered or written, and the lane is full if too much is left; and
-- else nothing is said
abbrev pub Sends : ℕ → List ℕ → Bool → Lane → Lane → List Answer → Type 0
Sends now bytes text before after answers =
    (mid : Lane) × (is_put : Bool) × Puts bytes text before mid is_put
    × Chooses is_put ((said : Lane) × GathersOrSays mid said answers × (after ≡ after_message now said)) ((answers ≡ []) × (after ≡ mid))

-- a live lane is shut at this moment: a WebSocket says that it ends, and the lane is heard no more
abbrev pub Shuts : ℕ → Lane → Lane → List Answer → Type 0
Shuts now before after answers =
    Chooses (is_live before.stage)
    (WritesOut (record before { since = now; protocol = protocol_after_shut before.protocol; stage = Closing }) after answers)
    ((answers ≡ []) × (after ≡ before))

-- the first lane of this number does this, if there is one, and the others stay as they are
abbrev pub AtLane : ℕ → (Lane → Lane → List Answer → Type 0) → List Lane → List Lane → List Answer → Type 0
AtLane wire Does [] after answers = (after ≡ []) × (answers ≡ [])
AtLane wire Does (lane ∷ lanes) after answers =
    Chooses (lane.wire == wire)
    ((next : Lane) × (after ≡ next ∷ lanes) × Does lane next answers)
    ((rest : List Lane) × (after ≡ lane ∷ rest) × AtLane wire Does lanes rest answers)
