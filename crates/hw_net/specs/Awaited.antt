-- What the caller of a door knows of its lanes: where a reply is awaited, and where an upgrade was given.
use Rattle.std.specs.Prelude.{◌≡◌, ◌⊎◌, ◌==◌, ◌&&◌, ◌||◌, ℕ, Bool, true, false, not, if◌then◌else◌, List, [], ◌∷◌, ◌++◌, Contains, ⊤}
use Rattle.hw_lanes.specs.declared.http.Reply.{Reply}
use Rattle.hw_lanes.specs.declared.http.Request.{Request}
use Rattle.hw_door.specs.declared.heard.Event.{Event}
use Rattle.hw_door.specs.declared.heard.Event.TheVariants as event
use Rattle.hw_door.specs.declared.heard.Heard.{Heard}
use Rattle.hw_door.specs.Traffic.{Answer}
use Rattle.hw_socket.specs.Sending.{Sent}
use Rattle.hw_net.specs.declared.limits.TheConstants.{SWITCHING}
use Rattle.hw_net.specs.declared.protocol.Protocol.{Protocol}
use Rattle.hw_net.specs.declared.protocol.Protocol.TheVariants.{Http, Response, Socket}
use Rattle.hw_net.specs.Door.{DoorState}
use Rattle.hw_net.specs.Lane.{Lane, is_live}
use Rattle.hw_net.specs.Sessions.{Call, heard, replied, sent, Session, is_request_on, refusal_on, replies_on, sent_on}

abbrev pub is_lost_on : ℕ → Event → Bool
is_lost_on lane (event.Lost at) = at == lane
is_lost_on lane _ = false

-- a request was heard on the lane that was given no reply, and the lane wasn't lost since
abbrev pub awaits_on : ℕ → List Call → Bool
awaits_on lane [] = false
awaits_on lane (heard what answers ∷ calls) = is_request_on lane what.event || (not (is_lost_on lane what.event) && awaits_on lane calls)
awaits_on lane (replied at reply answers ∷ calls) = not (at == lane) && awaits_on lane calls
awaits_on lane (_ ∷ calls) = awaits_on lane calls

-- an upgrade was given on the lane since it was lost last
abbrev pub upgraded_on : ℕ → List Call → Bool
upgraded_on lane [] = false
upgraded_on lane (heard what answers ∷ calls) = not (is_lost_on lane what.event) && upgraded_on lane calls
upgraded_on lane (replied at reply answers ∷ calls) = ((at == lane) && (reply.status == SWITCHING)) || upgraded_on lane calls
upgraded_on lane (_ ∷ calls) = upgraded_on lane calls

-- each reply was given on a lane where one was awaited
abbrev pub AreAwaited : List Call → Type 0
AreAwaited [] = ⊤
AreAwaited (replied at reply answers ∷ calls) = (awaits_on at calls ≡ true) × AreAwaited calls
AreAwaited (_ ∷ calls) = AreAwaited calls

-- To a caller that replies only where that is awaited, a request is heard only on a lane where none is and that was given no upgrade.
abbrev pub RequestsAreFree : Type 0
RequestsAreFree =
    (what : Heard) (answers : List Answer) (calls : List Call) (bound : ℕ) (now : DoorState) → Session (heard what answers ∷ calls) bound now → AreAwaited calls
    → (lane : ℕ) (request : Request) → what.event ≡ event.Request lane request
    → (awaits_on lane calls ≡ false) × (upgraded_on lane calls ≡ false)

-- ---- what is given, and what of it is said

-- the replies that were given on a lane, in order
abbrev pub given_on : ℕ → List Call → List Reply
given_on lane [] = []
given_on lane (replied at reply answers ∷ calls) = given_on lane calls ++ (if at == lane then reply ∷ [] else [])
given_on lane (_ ∷ calls) = given_on lane calls

-- the door's own replies there, to what is no request
abbrev pub refusals_on : ℕ → List Call → List Reply
refusals_on lane [] = []
refusals_on lane (heard what answers ∷ calls) = refusals_on lane calls ++ refusal_on lane what.event
refusals_on lane (_ ∷ calls) = refusals_on lane calls

-- the messages that were given there since the last reply was
abbrev pub given_since : ℕ → List Call → List Sent
given_since lane [] = []
given_since lane (replied at reply answers ∷ calls) = if at == lane then [] else given_since lane calls
given_since lane (sent at bytes text full answers ∷ calls) = if at == lane then given_since lane calls ++ record { is_text = text; bytes = bytes } ∷ [] else given_since lane calls
given_since lane (_ ∷ calls) = given_since lane calls

-- On a WebSocket, live or not, the messages that were given since the last reply are those given while the lane went on, and then others, but none if it
-- is live.
abbrev pub GivesFirst : Protocol → Bool → ℕ → List Call → Type 0
GivesFirst (Http http_state) live lane calls = ⊤
GivesFirst (Response response_state) live lane calls = ⊤
GivesFirst (Socket websocket_state) live lane calls =
    (late : List Sent) × (given_since lane calls ≡ sent_on lane calls ++ late) × (live ≡ true → late ≡ [])

-- The replies said on a lane are those given there, in order, and then the door's own. The last one given isn't said if the lane wasn't live any more.
pub record IsSaid (calls : List Call) (lane : Lane) : Type 0 where
  pub said : List Reply
  pub unsaid : List Reply
  pub given : given_on lane.wire calls ≡ said ++ unsaid
  pub replies : replies_on lane.wire calls ≡ said ++ refusals_on lane.wire calls
  pub few : (unsaid ≡ []) ⊎ ((reply : Reply) × (unsaid ≡ reply ∷ []))
  pub all : is_live lane.stage ≡ true → (unsaid ≡ []) × (refusals_on lane.wire calls ≡ [])
  pub messages : GivesFirst lane.protocol (is_live lane.stage) lane.wire calls

-- so it is of each lane, if the caller replies only where that is awaited
abbrev pub RepliesAreSaid : Type 0
RepliesAreSaid =
    (calls : List Call) (bound : ℕ) (now : DoorState) → Session calls bound now → AreAwaited calls → (lane : Lane) → Contains now.lanes lane → IsSaid calls lane
