-- What a server does at each event, from what it hears to what it says.
-- At an event, in this order: what its moment has ended is closed; who calls is asked, and the lots; the event is handled, with every
-- message that came; each end on a link ticks once; one round; then each connection says what is due, unless its lane is full. Afterwards the
-- door, which is given all that is said, answers to each message whether its lane is full.
use Rattle.std.specs.Prelude.{◌≡◌, ◌⊎◌, ℕ, ◌+◌, ◌-◌, ◌<◌, ◌≤◌, Bool, true, false, not, ◌&&◌, ◌==◌, nat_le, List, [], ◌∷◌, ◌++◌, map, length, take, drop, Option, Some, None, is_some, if◌then◌else◌}
use Rattle.std.specs.List.{flat_map, list_all}
use Rattle.hm_message.specs.declared.message.Codec.{Codec}
use Rattle.hm_message.specs.declared.message.Codec.TheVariants.{Json, Pack}
use Rattle.hd_delivery.specs.Numbers.{most_framing}
use Rattle.hd_delivery.specs.Frames.{LinkFrame}
use Rattle.hd_delivery.specs.Histories.{EndEvent, Took, Failed, Lent, Ticked, Silenced, Config, present_link, codec_of, is_silence}
use Rattle.hd_delivery.specs.Due.{due, answer}
use Rattle.hd_delivery.specs.Processes.{processes}
use Rattle.hd_delivery.specs.Bytes.{Wire, Bytes, unread_count, spelling_of}
use Rattle.hd_delivery.specs.Bytes.{Does as Step_of}
use Rattle.hd_calls.specs.Hubs.{Hub}
use Rattle.hd_calls.specs.Peers.{Begins, PeerEvent, Plain, Reads, Handles, Settings, waiting, byte_steps, steps, is_shut}
use Rattle.hw_door.specs.declared.heard.Event.{Event}
use Rattle.hw_door.specs.declared.heard.Event.TheVariants as event
use Rattle.hw_door.specs.declared.heard.Given.{Given}
use Rattle.hw_door.specs.declared.heard.Given.TheVariants as give
use Rattle.hw_door.specs.declared.heard.Heard.{Heard}
use Rattle.hd_server.specs.declared.vocabulary.Said.{Said}
use Rattle.hd_server.specs.declared.vocabulary.Said.TheVariants as say
use Rattle.hd_server.specs.Numbers.{held_for, most_before_last}
use Rattle.hd_server.specs.Lives.{Ended, Answered, socket_of, poll_of, is_polling, ended_at}
use Rattle.hd_server.specs.Machine.{MachineEvent, Does, Rounds, settings_of, connections, ArePeers, IsRound}
use Rattle.hd_server.specs.Doings.{ServerEvent, Hears, Notes, Works, Says, Sees, notes, work, moment, said, is_full, is_upgraded, awaits_reply, peer, history, config_of, has_closed}
use Rattle.hd_server.specs.Plans.{Setup, onto, step, removing_conn, losing, bare_reply, frames_reply, shutting, replying, expiries, questions, plan}

-- ---- bytes that come

-- what a peer does with what was fed; a job begins at the event's moment
abbrev pub is_taking : ℕ → PeerEvent → Bool
is_taking now (Plain (Step_of (Took got))) = true
is_taking now (Plain (Step_of (Failed fault))) = true
is_taking now (Reads m) = true
is_taking now (Handles m (Begins call since floods)) = since == now
is_taking now (Handles m effect) = true
is_taking now _ = false

-- whole frames are taken, and the messages in them handled, until none is left
pub record TakesAll (t : Settings) (now : ℕ) (h after : List PeerEvent) : Type 0 where
  pub taken : List PeerEvent
  pub are : after ≡ taken ++ h
  pub each : list_all (is_taking now) taken ≡ true
  pub none_waits : waiting after ≡ None
  pub none_left : processes t.config (steps t after) ≡ None

-- the end is on a link and open, so that it can be fed
abbrev pub can_feed : Settings → List PeerEvent → Bool
can_feed t h = is_some (present_link (steps t h)) && not (is_shut t h)

abbrev pub unread_on : Settings → Option ℕ → List PeerEvent → ℕ
unread_on t None h = 0
unread_on t (Some l) h = unread_count t.wire t.config l (byte_steps t h)

-- the first part of these bytes for which an end has room
abbrev pub next_piece : Settings → List PeerEvent → List ℕ → List ℕ
next_piece t h bytes = take ((t.limits.frame + most_framing) - unread_on t (present_link (steps t h)) h) bytes

-- bytes are fed in these pieces, and every whole frame is taken after each: one piece at least, which may be empty, until all are fed or
-- the end takes no more. `fed` tells that one was
abbrev pub Feeds : Settings → ℕ → Bool → List ℕ → List (List ℕ) → List PeerEvent → List PeerEvent → Type 0
Feeds t now fed bytes [] h after = ((can_feed t h ≡ false) ⊎ ((fed ≡ true) × (bytes ≡ []))) × (after ≡ h)
Feeds t now fed bytes (p ∷ ps) h after =
    (can_feed t h ≡ true) × ((fed ≡ false) ⊎ (0 < length bytes)) × (p ≡ next_piece t h bytes)
    × ((mid : List PeerEvent) × TakesAll t now (Plain (Bytes p) ∷ h) mid × Feeds t now true (drop (length p) bytes) ps mid after)

-- these moves of one peer, the latest first
abbrev pub moving : ℕ → List PeerEvent → List ServerEvent → List ServerEvent
moving c ms h = map (λ m. Works (Does c m)) ms ++ h

-- a connection is fed these bytes
pub record FeedsOne (now c : ℕ) (bytes : List ℕ) (h after : List ServerEvent) : Type 0 where
  pub settings : Settings
  pub begun : settings_of c (work h) ≡ Some settings
  pub pieces : List (List ℕ)
  pub moves : List PeerEvent
  pub feeds : Feeds settings now false bytes pieces (peer c h) (moves ++ peer c h)
  pub are : after ≡ moving c moves h

-- a connection is fed, or none is
abbrev pub IsFed : ℕ → Option (ℕ × List ℕ) → List ServerEvent → List ServerEvent → Type 0
IsFed now None h after = after ≡ h
IsFed now (Some food) h after = FeedsOne now food.0 food.1 h after

-- ---- ticks

-- a silence is a loss, and the lane is shut
abbrev pub silenced : ℕ → Option ℕ → ℕ → List ServerEvent → List ServerEvent
silenced c None now h = step c (Silenced now) ∷ []
silenced c (Some lane) now h = step c (Silenced now) ∷ losing c lane now h ++ shutting lane h

-- each end that stands on a link ticks once
abbrev pub ticking : ℕ → ℕ → List ServerEvent → List ServerEvent
ticking now c h =
    if is_some (present_link (history c h))
    then (if is_silence (config_of c h) now (history c h) then silenced c (socket_of c (notes h)) now h else step c (Ticked now) ∷ [])
    else []

abbrev pub ticks : ℕ → List ServerEvent → List ServerEvent
ticks now h = flat_map (λ c. ticking now c h) (connections (work h))

-- ---- what is said

-- all that is due
abbrev pub LendsAll : Config → List EndEvent → List LinkFrame → Type 0
LendsAll c s [] = due c s ≡ None
LendsAll c s (f ∷ fs) = (due c s ≡ Some f) × LendsAll c (Lent f ∷ s) fs

-- what is due, as long as the body has room for any frame
abbrev pub LendsUpTo : Wire → Config → List EndEvent → ℕ → List LinkFrame → Type 0
LendsUpTo wire c s size [] = (due c s ≡ None) ⊎ (most_before_last < size)
LendsUpTo wire c s size (f ∷ fs) =
    (due c s ≡ Some f) × (size ≤ most_before_last) × LendsUpTo wire c (Lent f ∷ s) (size + length (wire.spell (codec_of c s) f)) fs

-- each message has a frame
abbrev pub AreNonempty : List (List LinkFrame) → Type 0
AreNonempty [] = Unit {0}
AreNonempty (p ∷ ps) = (0 < length p) × AreNonempty ps

abbrev pub all_of : List (List LinkFrame) → List LinkFrame
all_of pieces = flat_map (λ p. p) pieces

abbrev pub lending : ℕ → List LinkFrame → List ServerEvent
lending c fs = map (λ f. step c (Lent f)) fs

abbrev pub is_json : Codec → Bool
is_json Json = true
is_json Pack = false

-- texts are what is written in JSON, and the answer to a handshake that is refused
abbrev pub is_text : Config → List EndEvent → Bool
is_text c s = if is_some (answer s) then true else is_json (codec_of c s)

abbrev pub bytes_of : Setup → ℕ → List LinkFrame → List ServerEvent → List ℕ
bytes_of s c fs h = spelling_of s.wire (codec_of (config_of c h) (history c h)) fs

-- whole frames, in one or more messages
abbrev pub writing : Setup → ℕ → ℕ → List (List LinkFrame) → List ServerEvent → List ServerEvent
writing s c lane pieces h = map (λ p. Says (say.Bytes lane (bytes_of s c p h) (is_text (config_of c h) (history c h)))) pieces

-- on a socket; of an end that is closed nothing is kept, and its lane is shut
abbrev pub flushing_socket : Setup → ℕ → ℕ → List (List LinkFrame) → List ServerEvent → List ServerEvent
flushing_socket s c lane pieces h =
    lending c (all_of pieces) ++ writing s c lane pieces h ++ (if has_closed c h then shutting lane h ++ removing_conn c h else [])

-- the poll that is held, by what is due
abbrev pub flushing_poll : Setup → ℕ → ℕ → ℕ × ℕ → List LinkFrame → List ServerEvent → List ServerEvent
flushing_poll s now c poll [] h =
    if has_closed c h then replying poll.0 (bare_reply 204) h ++ removing_conn c h
    else (if nat_le (poll.1 + held_for) now then replying poll.0 (bare_reply 200) h ++ Notes (Answered c poll.0 now) ∷ [] else [])
flushing_poll s now c poll (f ∷ fs) h =
    lending c (f ∷ fs) ++ replying poll.0 (frames_reply (bytes_of s c (f ∷ fs) h)) h ++ Notes (Answered c poll.0 now) ∷ []

abbrev pub flushing_some_poll : Setup → ℕ → ℕ → Option (ℕ × ℕ) → List LinkFrame → List ServerEvent → List ServerEvent
flushing_some_poll s now c None fs h = []
flushing_some_poll s now c (Some poll) fs h = flushing_poll s now c poll fs h

-- a connection that polls and is closed begins to end
abbrev pub ending : ℕ → ℕ → List ServerEvent → List ServerEvent
ending now c h = if has_closed c h && not (is_some (ended_at c (notes h))) then Notes (Ended c now) ∷ [] else []

abbrev pub flushing_without : Setup → ℕ → ℕ → List LinkFrame → List ServerEvent → List ServerEvent
flushing_without s now c fs h =
    if is_polling c (notes h) then ending now c h ++ flushing_some_poll s now c (poll_of c (notes h)) fs h
    else (if has_closed c h then removing_conn c h else [])

-- what is said on a connection, by the lane of its socket, where these frames are due
abbrev pub flushing_on : Setup → ℕ → ℕ → Option ℕ → List (List LinkFrame) → List ServerEvent → List ServerEvent
flushing_on s now c (Some lane) pieces h = flushing_socket s c lane pieces h
flushing_on s now c None pieces h = flushing_without s now c (all_of pieces) h

abbrev pub flushing : Setup → ℕ → ℕ → List (List LinkFrame) → List ServerEvent → List ServerEvent
flushing s now c pieces h = flushing_on s now c (socket_of c (notes h)) pieces h

-- what is due stays due: the lane is full, and the end isn't closed
abbrev pub is_withheld : ℕ → ℕ → List ServerEvent → Bool
is_withheld c lane h = is_full lane h && not (has_closed c h)

-- what is due on a socket, by whether it is withheld
abbrev pub AreDueBy : Bool → ℕ → List (List LinkFrame) → List ServerEvent → Type 0
AreDueBy true c pieces h = pieces ≡ []
AreDueBy false c pieces h = AreNonempty pieces × LendsAll (config_of c h) (history c h) (all_of pieces)

-- what is due on a connection, by the lane of its socket and the poll that it holds, cut into messages
abbrev pub AreDueOn : Setup → ℕ → Option ℕ → Option (ℕ × ℕ) → List (List LinkFrame) → List ServerEvent → Type 0
AreDueOn s c (Some lane) poll pieces h = AreDueBy (is_withheld c lane h) c pieces h
AreDueOn s c None (Some poll) pieces h = LendsUpTo s.wire (config_of c h) (history c h) 0 (all_of pieces)
AreDueOn s c None None pieces h = pieces ≡ []

abbrev pub AreDue : Setup → ℕ → List (List LinkFrame) → List ServerEvent → Type 0
AreDue s c pieces h = AreDueOn s c (socket_of c (notes h)) (poll_of c (notes h)) pieces h

-- so it is of each of these connections
abbrev pub AreAllDue : Setup → List ℕ → List (List (List LinkFrame)) → List ServerEvent → Type 0
AreAllDue s [] [] h = Unit {0}
AreAllDue s (c ∷ cs) (pieces ∷ more) h = AreDue s c pieces h × AreAllDue s cs more h
AreAllDue s _ _ h = ⊥

-- what they say, one after the other. What one says changes nothing for the others
abbrev pub all_flushing : Setup → ℕ → List ℕ → List (List (List LinkFrame)) → List ServerEvent → List ServerEvent
all_flushing s now (c ∷ cs) (pieces ∷ more) h = flushing s now c pieces h ++ all_flushing s now cs more h
all_flushing s now _ _ h = []

-- ---- one event

-- a draw is sixteen bytes
abbrev pub IsDraw : Option (List ℕ) → Type 0
IsDraw None = Unit {0}
IsDraw (Some bytes) = length bytes ≡ 16

-- what a server does at one event. What the keeper and the lots answer, if they are asked, is free here, and told by the list
pub record IsTurn {Job : Type 0} (hub : Hub Job) (s : Setup) (now : ℕ) (heard : Event) (h after : List ServerEvent) : Type 0 where
  pub name : Option (Option (List ℕ))
  pub drawn : Option (List ℕ)
  pub of_sixteen : IsDraw drawn
  pub expired : List ServerEvent
  pub expires : expired ≡ onto (expiries now (Hears now heard ∷ h)) (Hears now heard ∷ h)
  pub asked : List ServerEvent
  pub asks : asked ≡ onto (questions s now heard name drawn expired) expired
  pub begun : List ServerEvent
  pub begins : begun ≡ onto (plan s now heard name drawn asked).first asked
  pub fed : List ServerEvent
  pub feeds : IsFed now (plan s now heard name drawn asked).food begun fed
  pub handled : List ServerEvent
  pub handles : handled ≡ onto (plan s now heard name drawn asked).last fed
  pub ticked : List ServerEvent
  pub has_ticked : ticked ≡ onto (ticks now handled) handled
  pub round : List MachineEvent
  pub rounds : IsRound now round (work ticked)
  pub stepped : List ServerEvent
  pub has_stepped : stepped ≡ map Works round ++ Works (Rounds now) ∷ ticked
  pub pieces : List (List (List LinkFrame))
  pub all_due : AreAllDue s (connections (work stepped)) pieces stepped
  pub tells : after ≡ onto (all_flushing s now (connections (work stepped)) pieces stepped) stepped
  pub peers : ArePeers hub (work after)

-- ---- events one after the other

-- a request comes only on a lane that is no WebSocket and on which none waits for its reply
abbrev pub IsFree : Event → List ServerEvent → Type 0
IsFree (event.Request lane r) h = (is_upgraded lane h ≡ false) × (awaits_reply lane h ≡ false)
IsFree _ h = Unit {0}

-- what a door may give next: moments never fall
abbrev pub MayBeHeard : Heard → List ServerEvent → Type 0
MayBeHeard e h = (moment h ≤ e.now) × IsFree e.event h

-- what a door is given, so that this is said
abbrev pub given_as : Said → Given
given_as (say.Reply lane reply) = give.Reply lane reply
given_as (say.Bytes lane bytes text) = give.Bytes lane bytes text
given_as (say.Shut lane) = give.Shut lane

-- the lanes of the messages among what is given, in order
abbrev pub lanes_sent : List Given → List ℕ
lanes_sent [] = []
lanes_sent (give.Bytes lane bytes text ∷ given) = lane ∷ lanes_sent given
lanes_sent (_ ∷ given) = lanes_sent given

-- what is answered to messages for these lanes, as far as there are answers, the first first
abbrev pub seeing : List ℕ → List Bool → List ServerEvent → List ServerEvent
seeing (lane ∷ lanes) (full ∷ more) h = seeing lanes more (Sees lane full ∷ h)
seeing _ _ h = h

-- after this was given the server has seen what was answered to each message among it
pub record IsSeen (given : List Given) (full : List Bool) (h after : List ServerEvent) : Type 0 where
  pub each : length full ≡ length (lanes_sent given)
  pub sees : after ≡ seeing (lanes_sent given) full h

-- what a server does at one event, and then sees of what it said at it
pub record ServesOne {Job : Type 0} (hub : Hub Job) (s : Setup) (e : Heard) (h after : List ServerEvent) : Type 0 where
  pub turned : List ServerEvent
  pub turn : IsTurn hub s e.now e.event h turned
  pub words : List Said
  pub tells : said turned ≡ said h ++ words
  pub full : List Bool
  pub seen : IsSeen (map given_as words) full turned after

-- what a server did that heard these, the latest first
abbrev pub Serves : {Job : Type 0} → Hub Job → Setup → List Heard → List ServerEvent → Type 0
Serves hub s [] h = h ≡ []
Serves hub s (e ∷ es) h = (before : List ServerEvent) × Serves hub s es before × MayBeHeard e before × ServesOne hub s e before h
