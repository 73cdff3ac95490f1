-- What is done as one connection is dialed: how it is dialed, and what comes of each event that is heard. Each function appends to what happened.
use Rattle.std.specs.Prelude.{ℕ, suc, Bool, true, false, ◌==◌, nat_le, List, [], ◌∷◌, Option, Some, None, if◌then◌else◌}
use Rattle.hw_door.specs.declared.heard.Event.{Event}
use Rattle.hw_door.specs.declared.heard.Event.TheVariants as event
use Rattle.hd_dialing.specs.Numbers.{most_lost}
use Rattle.hd_dialing.specs.Bodies.{Told}
use Rattle.hd_dialing.specs.Asks.{Setup, negotiate_ask, socket_ask}
use Rattle.hd_dialing.specs.Events.{DialEvent, Hears, Draws, Asks, Learns, Shuts, GivesUp, Stops, Phase, Negotiates, Upgrades, Stands, phase, told, lost_dials}

-- the lane that the dialer answers to an ask; and for an ask for a socket the key, and then the seed, that are drawn. A draw may fail
pub record Dial : Type 0 where
  pub lane : ℕ
  pub key : Option (List ℕ)
  pub seed : Option (List ℕ)

-- ---- asks

-- after the ask for a socket with a token. Without a key or a seed nothing is asked, and it is given up
abbrev pub socket_asked : Setup → ℕ → List ℕ → Option (List ℕ) → Option (List ℕ) → List DialEvent → List DialEvent
socket_asked s lane token None seed h = GivesUp ∷ Draws None ∷ h
socket_asked s lane token (Some key) None h = GivesUp ∷ Draws None ∷ Draws (Some key) ∷ h
socket_asked s lane token (Some key) (Some seed) h =
    Asks lane (socket_ask s token (record { key = key; seed = seed })) ∷ Draws (Some seed) ∷ Draws (Some key) ∷ h

-- after the first ask of a dial: for a token, if none was told, and else for a socket with the one that was
abbrev pub dialed : Setup → Dial → Option Told → List DialEvent → List DialEvent
dialed s d None h = Asks d.lane (negotiate_ask s) ∷ h
dialed s d (Some t) h = socket_asked s d.lane t.token d.key d.seed h

-- ---- events

-- what the response to a negotiate tells. One of another status than 200 is bad, whatever its body is
abbrev pub told_in_response : Setup → ℕ → List ℕ → Option Told
told_in_response s status body = if status == 200 then s.tells body else None

-- after that response. Its lane is shut, whatever it tells; and the socket is asked for at once
abbrev pub negotiated : Setup → Dial → ℕ → Option Told → List DialEvent → List DialEvent
negotiated s d lane None h = GivesUp ∷ Shuts lane ∷ h
negotiated s d lane (Some t) h = socket_asked s d.lane t.token d.key d.seed (Learns t ∷ Shuts lane ∷ h)

-- after so many lost dials in a row
abbrev pub counted : ℕ → List DialEvent → List DialEvent
counted lost h = if nat_le most_lost lost then GivesUp ∷ h else h

-- after an event, by how far it was and how many dials in a row were lost before it. What comes on no lane of its own is passed over
abbrev pub answered : Setup → Dial → Event → Phase → ℕ → List DialEvent → List DialEvent
answered s d (event.Response lane status body) (Negotiates l) lost h = if lane == l then negotiated s d lane (told_in_response s status body) h else h
answered s d (event.Response lane status body) (Upgrades l) lost h = if lane == l then GivesUp ∷ h else h
answered s d (event.Lost lane) (Negotiates l) lost h = if lane == l then counted (suc lost) h else h
answered s d (event.Lost lane) (Upgrades l) lost h = if lane == l then counted (suc lost) h else h
answered s d event p lost h = h

abbrev pub heard : Setup → Dial → ℕ → Event → List DialEvent → List DialEvent
heard s d now event h = answered s d event (phase h) (lost_dials h) (Hears now event ∷ h)

-- ---- what whoever dials does

-- after the end of the lane, if there is one
abbrev pub shut : Phase → List DialEvent → List DialEvent
shut (Negotiates lane) h = Shuts lane ∷ h
shut (Upgrades lane) h = Shuts lane ∷ h
shut (Stands lane) h = Shuts lane ∷ h
shut p h = h

-- ---- what it is to whoever dials

-- what an event means for the link over the socket
pub data News : Type 0 where
  Nothing : News
  Begins : (lane : ℕ) → News  -- the socket is up on this lane: a link begins
  Brings : (bytes : List ℕ) → News
  Drains : News  -- the lane of the link isn't full any more
  Ends : News  -- the link is lost

abbrev pub news : Event → Phase → News
news (event.Upgraded lane) (Upgrades l) = if lane == l then Begins lane else Nothing
news (event.Bytes lane bytes) (Stands l) = if lane == l then Brings bytes else Nothing
news (event.Drained lane) (Stands l) = if lane == l then Drains else Nothing
news (event.Lost lane) (Stands l) = if lane == l then Ends else Nothing
news event p = Nothing
