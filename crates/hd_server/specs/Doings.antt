-- What a server did, as one list, the latest first, and what is read off it: its connections' notes, the happenings of the hub machine,
-- and with them each peer's moves and the history of its end; what was heard, asked, drawn and said, and which lanes are full.
use Rattle.std.specs.Prelude.{ℕ, Bool, false, ◌&&◌, ◌||◌, ◌==◌, List, [], ◌∷◌, ◌++◌, Option, Some, None, if◌then◌else◌}
use Rattle.hm_message.specs.declared.message.Codec.TheVariants.{Json}
use Rattle.hd_delivery.specs.declared.vocabulary.Side.TheVariants.{Server}
use Rattle.hd_delivery.specs.Histories.{EndEvent, Config, is_closed, is_resumable}
use Rattle.hd_calls.specs.Peers.{PeerEvent, Settings, steps}
use Rattle.hd_rooms.specs.declared.vocabulary.Asked.{Asked}
use Rattle.hd_rooms.specs.declared.vocabulary.Asked.TheVariants as keeper
use Rattle.hw_door.specs.declared.heard.Event.{Event}
use Rattle.hw_door.specs.declared.heard.Event.TheVariants as event
use Rattle.hw_door.specs.declared.heard.Heard.{Heard}
use Rattle.hd_server.specs.declared.vocabulary.Said.{Said}
use Rattle.hd_server.specs.declared.vocabulary.Said.TheVariants as say
use Rattle.hd_server.specs.Lives.{ConnectionEvent, Negotiated, Opened}
use Rattle.hd_server.specs.Machine.{MachineEvent, Carries, settings_of, moves, is_there, is_open}

-- an end makes steps; a peer makes moves, of which most make a step; the hub machine has happenings, of which most make moves; and a
-- server does all of it
pub data ServerEvent : Type 0 where
  Hears : (now : ℕ) → (event : Event) → ServerEvent
  Learns : (asked : Asked) → ServerEvent  -- the keeper was asked who calls
  Draws : (drawn : Option (List ℕ)) → ServerEvent  -- the lots were asked, and gave this or failed
  Notes : (note : ConnectionEvent) → ServerEvent
  Works : (happening : MachineEvent) → ServerEvent
  Says : (said : Said) → ServerEvent
  Sees : (lane : ℕ) → (full : Bool) → ServerEvent  -- the door was given a message for the lane, and answered whether that is full now

-- ---- the parts

-- what was noted of connections
abbrev pub notes : List ServerEvent → List ConnectionEvent
notes [] = []
notes (Notes n ∷ h) = n ∷ notes h
notes (_ ∷ h) = notes h

-- what the hub machine did
abbrev pub work : List ServerEvent → List MachineEvent
work [] = []
work (Works x ∷ h) = x ∷ work h
work (_ ∷ h) = work h

-- what was heard, the first first
abbrev pub hears : List ServerEvent → List Heard
hears [] = []
hears (Hears now event ∷ h) = hears h ++ record { now = now; event = event } ∷ []
hears (_ ∷ h) = hears h

-- what the keeper was asked and answered, the first first: for requests, and for the deeds of jobs
abbrev pub asked : List ServerEvent → List Asked
asked [] = []
asked (Learns ask ∷ h) = asked h ++ ask ∷ []
asked (Works (Carries c j d fates (Some ask)) ∷ h) = asked h ++ ask ∷ []
asked (_ ∷ h) = asked h

-- what was drawn, the first first
abbrev pub draws : List ServerEvent → List (Option (List ℕ))
draws [] = []
draws (Draws drawn ∷ h) = draws h ++ drawn ∷ []
draws (_ ∷ h) = draws h

-- what was said, the first first
abbrev pub said : List ServerEvent → List Said
said [] = []
said (Says x ∷ h) = said h ++ x ∷ []
said (_ ∷ h) = said h

-- what was answered to messages, the first first
abbrev pub seen : List ServerEvent → List Bool
seen [] = []
seen (Sees lane full ∷ h) = seen h ++ full ∷ []
seen (_ ∷ h) = seen h

-- the moment of the last event
abbrev pub moment : List ServerEvent → ℕ
moment [] = 0
moment (Hears now event ∷ h) = now
moment (_ ∷ h) = moment h

-- ---- lanes

-- the lane is to be shut after the reply to its last request, which is the one that it waits for
abbrev pub wants_shut : ℕ → List ServerEvent → Bool
wants_shut lane [] = false
wants_shut lane (Hears now (event.Request l r) ∷ h) = if lane == l then r.shut else wants_shut lane h
wants_shut lane (_ ∷ h) = wants_shut lane h

-- the door refused what came on the lane, and has shut it. A request that comes under its number afterwards comes on a new lane
abbrev pub was_refused : ℕ → List ServerEvent → Bool
was_refused lane [] = false
was_refused lane (Hears now (event.Refused l refusal) ∷ h) = (lane == l) || was_refused lane h
was_refused lane (Hears now (event.Request l r) ∷ h) = if lane == l then false else was_refused lane h
was_refused lane (_ ∷ h) = was_refused lane h

-- the door answered to the last message for the lane that it is full, and hasn't said since that it is drained. A request that comes under its
-- number afterwards comes on a new lane
abbrev pub is_full : ℕ → List ServerEvent → Bool
is_full lane [] = false
is_full lane (Sees l full ∷ h) = if lane == l then full else is_full lane h
is_full lane (Hears now (event.Drained l) ∷ h) = if lane == l then false else is_full lane h
is_full lane (Hears now (event.Request l r) ∷ h) = if lane == l then false else is_full lane h
is_full lane (_ ∷ h) = is_full lane h

-- since the lane was lost last, 101 was said there
abbrev pub is_upgraded : ℕ → List ServerEvent → Bool
is_upgraded lane [] = false
is_upgraded lane (Hears now (event.Lost l) ∷ h) = if lane == l then false else is_upgraded lane h
is_upgraded lane (Says (say.Reply l reply) ∷ h) = ((lane == l) && (reply.status == 101)) || is_upgraded lane h
is_upgraded lane (_ ∷ h) = is_upgraded lane h

-- a request came there that has no reply, and the lane wasn't lost since
abbrev pub awaits_reply : ℕ → List ServerEvent → Bool
awaits_reply lane [] = false
awaits_reply lane (Hears now (event.Request l r) ∷ h) = (lane == l) || awaits_reply lane h
awaits_reply lane (Hears now (event.Lost l) ∷ h) = if lane == l then false else awaits_reply lane h
awaits_reply lane (Says (say.Reply l reply) ∷ h) = if lane == l then false else awaits_reply lane h
awaits_reply lane (_ ∷ h) = awaits_reply lane h

-- ---- who calls

-- what the keeper answered to the event that is heard
abbrev pub name_now : List ServerEvent → Option (List ℕ)
name_now [] = None
name_now (Hears now event ∷ h) = None
name_now (Learns (keeper.User token (Some name)) ∷ h) = name
name_now (_ ∷ h) = name_now h

-- whose connection it is: the user that called when it was made
abbrev pub user_of : ℕ → List ServerEvent → Option (List ℕ)
user_of c [] = None
user_of c (Notes (Negotiated k token reconnect now) ∷ h) = if c == k then name_now h else user_of c h
user_of c (Notes (Opened k now) ∷ h) = if c == k then name_now h else user_of c h
user_of c (_ ∷ h) = user_of c h

-- ---- one connection

-- what its peer did
abbrev pub peer : ℕ → List ServerEvent → List PeerEvent
peer c h = moves c (work h)

abbrev pub history_with : Option Settings → List PeerEvent → List EndEvent
history_with None h = []
history_with (Some t) h = steps t h

-- the history of its end. It is empty if it has none
abbrev pub history : ℕ → List ServerEvent → List EndEvent
history c h = history_with (settings_of c (work h)) (peer c h)

-- a server's end takes codec and version from the request
abbrev pub config_for : Bool → Config
config_for reconnect = record { side = Server; codec = Json; version = 1; reconnect = reconnect }

abbrev pub config_with : Option Settings → Config
config_with None = config_for false
config_with (Some t) = t.config

abbrev pub config_of : ℕ → List ServerEvent → Config
config_of c h = config_with (settings_of c (work h))

-- it has a peer
abbrev pub has_peer : ℕ → List ServerEvent → Bool
has_peer c h = is_there c (work h)

-- and its end is open
abbrev pub is_up : ℕ → List ServerEvent → Bool
is_up c h = is_open c (work h)

abbrev pub has_closed : ℕ → List ServerEvent → Bool
has_closed c h = is_closed (config_of c h) (history c h)

-- its end may be resumed
abbrev pub may_resume : ℕ → List ServerEvent → Bool
may_resume c h = is_up c h && is_resumable (config_of c h) (history c h)
