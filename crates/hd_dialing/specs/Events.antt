-- What happened to one connection that is dialed, as one list, the latest first, and what is read off it: how far it is, on which lane, the
-- token, how many dials in a row were lost, and from when on it may be dialed.
use Rattle.std.specs.Prelude.{ℕ, suc, ◌+◌, ◌-◌, Bool, true, false, ◌&&◌, ◌||◌, ◌==◌, nat_le, List, [], ◌∷◌, ◌++◌, Option, Some, None, if◌then◌else◌}
use Rattle.hw_door.specs.declared.heard.Event.{Event}
use Rattle.hw_door.specs.declared.heard.Event.TheVariants as event
use Rattle.hw_door.specs.declared.heard.Upgrade.{Upgrade}
use Rattle.hd_dialing.specs.Numbers.{pause_after}
use Rattle.hd_dialing.specs.Bodies.{Told}
use Rattle.hd_dialing.specs.Asks.{Ask}

pub data DialEvent : Type 0 where
  Hears : (now : ℕ) → (event : Event) → DialEvent  -- through the dialer, on whatever lane
  Draws : (drawn : Option (List ℕ)) → DialEvent  -- the lots were asked, and gave this or failed
  Asks : (lane : ℕ) → (ask : Ask) → DialEvent  -- the dialer was asked, and answered with the lane
  Learns : (told : Told) → DialEvent  -- a response told it
  Shuts : (lane : ℕ) → DialEvent
  GivesUp : DialEvent  -- by these rules it is dialed no more
  Stops : DialEvent  -- whoever dials it wants it no more

-- ---- how far it is

pub data Phase : Type 0 where
  Away : Phase  -- no lane is up, nor being made
  Negotiates : (lane : ℕ) → Phase  -- a token was asked for
  Upgrades : (lane : ℕ) → Phase  -- a socket was asked for
  Stands : (lane : ℕ) → Phase  -- the socket is up
  Over : Phase  -- it is dialed no more

-- on the lane that is up or being made
abbrev pub is_on : ℕ → Phase → Bool
is_on lane Away = false
is_on lane (Negotiates l) = lane == l
is_on lane (Upgrades l) = lane == l
is_on lane (Stands l) = lane == l
is_on lane Over = false

-- on the lane of a dial, whose socket isn't up
abbrev pub is_dial : ℕ → Phase → Bool
is_dial lane (Negotiates l) = lane == l
is_dial lane (Upgrades l) = lane == l
is_dial lane p = false

abbrev pub is_upgrade : ℕ → Phase → Bool
is_upgrade lane (Upgrades l) = lane == l
is_upgrade lane p = false

abbrev pub is_away : Phase → Bool
is_away Away = true
is_away p = false

abbrev pub is_up : Phase → Bool
is_up (Stands lane) = true
is_up p = false

abbrev pub is_over : Phase → Bool
is_over Over = true
is_over p = false

abbrev pub asking : ℕ → Option Upgrade → Phase
asking lane None = Negotiates lane
asking lane (Some upgrade) = Upgrades lane

abbrev pub risen : ℕ → Phase → Phase
risen lane p = if is_upgrade lane p then Stands lane else p

abbrev pub left : ℕ → Phase → Phase
left lane p = if is_on lane p then Away else p

abbrev pub phase : List DialEvent → Phase
phase [] = Away
phase (Asks lane ask ∷ h) = asking lane ask.upgrade
phase (Hears now (event.Upgraded lane) ∷ h) = risen lane (phase h)
phase (Hears now (event.Lost lane) ∷ h) = left lane (phase h)
phase (Shuts lane ∷ h) = left lane (phase h)
phase (GivesUp ∷ h) = Over
phase (Stops ∷ h) = Over
phase (_ ∷ h) = phase h

-- ---- what is known of it

-- what it was told, once it was
abbrev pub told : List DialEvent → Option Told
told [] = None
told (Learns t ∷ h) = Some t
told (_ ∷ h) = told h

-- the moment of the last event that was heard
abbrev pub moment : List DialEvent → ℕ
moment [] = 0
moment (Hears now event ∷ h) = now
moment (_ ∷ h) = moment h

-- ---- lost dials

-- how many dials in a row were lost. A socket that is up begins the count anew; a response to a negotiate doesn't
abbrev pub lost_dials : List DialEvent → ℕ
lost_dials [] = 0
lost_dials (Hears now (event.Lost lane) ∷ h) = if is_dial lane (phase h) then suc (lost_dials h) else lost_dials h
lost_dials (Hears now (event.Upgraded lane) ∷ h) = if is_upgrade lane (phase h) then 0 else lost_dials h
lost_dials (_ ∷ h) = lost_dials h

-- the moment at which the last lost dial was heard
abbrev pub lost_at : List DialEvent → ℕ
lost_at [] = 0
lost_at (Hears now (event.Lost lane) ∷ h) = if is_dial lane (phase h) then now else lost_at h
lost_at (_ ∷ h) = lost_at h

-- the moment from which on it may be dialed
abbrev pub dials_from : List DialEvent → ℕ
dials_from h = lost_at h + pause_after (lost_dials h)

-- it is dialed next
abbrev pub is_due : List DialEvent → Bool
is_due h = is_away (phase h) && nat_le (dials_from h) (moment h)

-- for how many milliseconds at most whoever dials it lets the dialer wait, while it is away
abbrev pub wait_left : List DialEvent → ℕ
wait_left h = dials_from h - moment h

-- ---- what the dialer and the lots are told

-- the asks with their lanes, the first first
abbrev pub asked : List DialEvent → List (ℕ × Ask)
asked [] = []
asked (Asks lane ask ∷ h) = asked h ++ (lane, ask) ∷ []
asked (_ ∷ h) = asked h

-- a lane was answered to an ask
abbrev pub has_asked : ℕ → List DialEvent → Bool
has_asked lane [] = false
has_asked lane (Asks l ask ∷ h) = (lane == l) || has_asked lane h
has_asked lane (_ ∷ h) = has_asked lane h

-- the draws, the first first
abbrev pub draws : List DialEvent → List (Option (List ℕ))
draws [] = []
draws (Draws drawn ∷ h) = draws h ++ drawn ∷ []
draws (_ ∷ h) = draws h

-- all that was done and not heard, the first first
abbrev pub done : List DialEvent → List DialEvent
done [] = []
done (Hears now event ∷ h) = done h
done (x ∷ h) = done h ++ x ∷ []
