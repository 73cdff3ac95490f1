-- What holds of these definitions, in their own words.
use Rattle.std.specs.Prelude.{◌≡◌, ◌≢◌, ◌⊎◌, ◌+◌, ◌≤◌, ◌<◌, ◌==◌, ℕ, suc, Bool, true, false, List, [], ◌∷◌, ◌++◌, Option, Some, None, if◌then◌else◌}
use Rattle.hw_door.specs.declared.heard.Event.{Event}
use Rattle.hw_door.specs.declared.heard.Event.TheVariants as event
use Rattle.hw_door.specs.declared.heard.Upgrade.{Upgrade}
use Rattle.hd_dialing.specs.Numbers.{most_lost, pause_after, patience}
use Rattle.hd_dialing.specs.Bodies.{Told}
use Rattle.hd_dialing.specs.Asks.{Setup, Ask, negotiate_ask, socket_ask}
use Rattle.hd_dialing.specs.Events.{DialEvent, Hears, Draws, Asks, Phase, Away, Negotiates, Upgrades, Stands, Over, is_on, is_dial, is_away, is_up, is_over, phase, told, moment, lost_dials, lost_at, dials_from, has_asked, done}
use Rattle.hd_dialing.specs.Plans.{Dial, News, Nothing, Begins, Brings, Drains, Ends, heard, news}
use Rattle.hd_dialing.specs.Dialing.{Move, Dials, Drops, Leaves, happened, IsDialing}
use Rattle.hd_dialing.specs.Dialing as move
use Rattle.hd_dialing.specs.Dialers.{DialerEvent, setup_of, moves, history, AreDialing}

-- ---- lanes

abbrev pub last_ask : List DialEvent → Option (ℕ × Ask)
last_ask [] = None
last_ask (Asks lane ask ∷ h) = Some (lane, ask)
last_ask (_ ∷ h) = last_ask h

-- a lane is up or being made for the last ask: for a token while none is told, and for a socket with the one that was
abbrev pub SuitsAsk : Setup → Phase → List DialEvent → Type 0
SuitsAsk s (Negotiates lane) h = (told h ≡ None) × (last_ask h ≡ Some (lane, negotiate_ask s))
SuitsAsk s (Upgrades lane) h = (t : Told) × (upgrade : Upgrade) × (told h ≡ Some t) × (last_ask h ≡ Some (lane, socket_ask s t.token upgrade))
SuitsAsk s (Stands lane) h = (t : Told) × (upgrade : Upgrade) × (told h ≡ Some t) × (last_ask h ≡ Some (lane, socket_ask s t.token upgrade))
SuitsAsk s p h = Unit {0}

abbrev pub PhasesSuitAsks : Type 0
PhasesSuitAsks = (s : Setup) (ms : List Move) → IsDialing s ms → SuitsAsk s (phase (happened s ms)) (happened s ms)

-- whenever it was asked, no lane was up or being made
abbrev pub AsksAlone : List DialEvent → Type 0
AsksAlone [] = Unit {0}
AsksAlone (Asks lane ask ∷ h) = (is_away (phase h) ≡ true) × AsksAlone h
AsksAlone (x ∷ h) = AsksAlone h

abbrev pub OneLaneAtMost : Type 0
OneLaneAtMost = (s : Setup) (ms : List Move) → IsDialing s ms → AsksAlone (happened s ms)

-- ---- tokens

-- an ask for a token, if none was told; else one for a socket with the token that was, and with the two draws just before it
abbrev pub IsAskFor : Setup → Option Told → Ask → List DialEvent → Type 0
IsAskFor s None ask h = ask ≡ negotiate_ask s
IsAskFor s (Some t) ask h = (key seed : List ℕ) × (older : List DialEvent) × (h ≡ Draws (Some seed) ∷ Draws (Some key) ∷ older)
    × (ask ≡ socket_ask s t.token (record { key = key; seed = seed }))

abbrev pub AsksByToken : Setup → List DialEvent → Type 0
AsksByToken s [] = Unit {0}
AsksByToken s (Asks lane ask ∷ h) = IsAskFor s (told h) ask h × AsksByToken s h
AsksByToken s (x ∷ h) = AsksByToken s h

abbrev pub AllAskByToken : Type 0
AllAskByToken = (s : Setup) (ms : List Move) → IsDialing s ms → AsksByToken s (happened s ms)

-- what was told once stays, so a token is asked for only until the first is told
abbrev pub TokensAreKept : Type 0
TokensAreKept = (s : Setup) (later ms : List Move) (t : Told) → IsDialing s (later ++ ms)
    → told (happened s ms) ≡ Some t → told (happened s (later ++ ms)) ≡ Some t

-- ---- losses

-- what may come next of one that is away: as soon as it may be dialed, that, and until then something is heard; or whoever dials leaves
abbrev pub IsNext : Move → List DialEvent → Type 0
IsNext (Dials d) h = dials_from h ≤ moment h
IsNext (move.Hears now event d) h = moment h < dials_from h
IsNext Drops h = ⊥
IsNext Leaves h = Unit {0}

abbrev pub AwayIsDialed : Type 0
AwayIsDialed = (s : Setup) (m : Move) (ms : List Move) → IsDialing s (m ∷ ms) → phase (happened s ms) ≡ Away → IsNext m (happened s ms)

-- one that lost its lane is away then, so it is dialed again, with what it was told; or it is given up, as five dials in a row were lost
pub record IsLossMet (before after : List DialEvent) : Type 0 where
  pub phase : (phase after ≡ Away) ⊎ ((phase after ≡ Over) × (lost_dials after ≡ most_lost))
  pub told : told after ≡ told before

abbrev pub LossesAreMet : Type 0
LossesAreMet = (s : Setup) (ms : List Move) (now lane : ℕ) (d : Dial) → IsDialing s ms → is_on lane (phase (happened s ms)) ≡ true
    → IsLossMet (happened s ms) (heard s d now (event.Lost lane) (happened s ms))

-- one that is up counts no lost dials, so a link that is lost is as if none was
abbrev pub LinksCountAnew : Type 0
LinksCountAnew = (s : Setup) (ms : List Move) → is_up (phase (happened s ms)) ≡ true → lost_dials (happened s ms) ≡ 0

-- one that is away and lost one dial in a row or none is dialed at once
abbrev pub FirstLossesAreMetAtOnce : Type 0
FirstLossesAreMetAtOnce = (s : Setup) (ms : List Move) → IsDialing s ms → lost_dials (happened s ms) ≤ 1 → dials_from (happened s ms) ≤ moment (happened s ms)

-- five lost dials in a row are the most, and fewer unless it is over
pub record LosesFew (h : List DialEvent) : Type 0 where
  pub most : lost_dials h ≤ most_lost
  pub fewer : is_over (phase h) ≡ false → lost_dials h < most_lost

abbrev pub AllLoseFew : Type 0
AllLoseFew = (s : Setup) (ms : List Move) → IsDialing s ms → LosesFew (happened s ms)

-- ---- moments

-- each ask came no sooner than the pause after the last lost dial
abbrev pub KeepsPauses : List DialEvent → Type 0
KeepsPauses [] = Unit {0}
KeepsPauses (Asks lane ask ∷ h) = (lost_at h + pause_after (lost_dials h) ≤ moment h) × KeepsPauses h
KeepsPauses (x ∷ h) = KeepsPauses h

abbrev pub AllKeepPauses : Type 0
AllKeepPauses = (s : Setup) (ms : List Move) → IsDialing s ms → KeepsPauses (happened s ms)

-- the moment at which the first of the dials was lost that were lost in a row
abbrev pub first_lost_at : List DialEvent → ℕ
first_lost_at [] = 0
first_lost_at (Hears now (event.Lost lane) ∷ h) = if is_dial lane (phase h) then (if lost_dials h == 0 then now else first_lost_at h) else first_lost_at h
first_lost_at (_ ∷ h) = first_lost_at h

-- the last dial in a row came so long after the first of them was lost, so a server that is back by then is met
abbrev pub IsPatient : List DialEvent → Type 0
IsPatient [] = Unit {0}
IsPatient (Asks lane ask ∷ h) = (suc (lost_dials h) ≡ most_lost → first_lost_at h + patience ≤ moment h) × IsPatient h
IsPatient (x ∷ h) = IsPatient h

abbrev pub DialersArePatient : Type 0
DialersArePatient = (s : Setup) (ms : List Move) → IsDialing s ms → IsPatient (happened s ms)

-- ---- ends

-- once it is over nothing is done for it, whatever is heard
abbrev pub NothingAfterTheEnd : Type 0
NothingAfterTheEnd = (s : Setup) (later ms : List Move) → IsDialing s (later ++ ms) → phase (happened s ms) ≡ Over
    → done (happened s (later ++ ms)) ≡ done (happened s ms)

-- ---- events

abbrev pub lane_of : Event → Option ℕ
lane_of (event.Request lane request) = Some lane
lane_of (event.Refused lane refusal) = Some lane
lane_of (event.Bytes lane bytes) = Some lane
lane_of (event.Response lane status body) = Some lane
lane_of (event.Upgraded lane) = Some lane
lane_of (event.Lost lane) = Some lane
lane_of (event.Drained lane) = Some lane
lane_of event.Quiet = None

abbrev pub is_on_some : Option ℕ → Phase → Bool
is_on_some None p = false
is_on_some (Some lane) p = is_on lane p

-- but for its moment, everything that counts is as it was
pub record IsAsBefore (before after : List DialEvent) : Type 0 where
  pub phase : phase after ≡ phase before
  pub told : told after ≡ told before
  pub lost : lost_dials after ≡ lost_dials before
  pub since : lost_at after ≡ lost_at before
  pub done : done after ≡ done before

-- an event on another lane than its own, or on none, changes nothing and brings no news
pub record IsPassedOver (s : Setup) (d : Dial) (now : ℕ) (event : Event) (h : List DialEvent) : Type 0 where
  pub unchanged : IsAsBefore h (heard s d now event h)
  pub unnoticed : news event (phase h) ≡ Nothing

abbrev pub OtherLanesPassOver : Type 0
OtherLanesPassOver = (s : Setup) (d : Dial) (now : ℕ) (event : Event) (h : List DialEvent)
    → is_on_some (lane_of event) (phase h) ≡ false → IsPassedOver s d now event h

-- a link begins where the socket comes up, ends where it is lost, and carries what comes in between
abbrev pub IsNewsOf : News → Phase → Phase → Type 0
IsNewsOf (Begins lane) before after = (before ≡ Upgrades lane) × (after ≡ Stands lane)
IsNewsOf Ends before after = (is_up before ≡ true) × (after ≡ Away)
IsNewsOf (Brings bytes) before after = (is_up before ≡ true) × (after ≡ before)
IsNewsOf Drains before after = (is_up before ≡ true) × (after ≡ before)
IsNewsOf Nothing before after = (is_up before ≡ true → after ≡ before) × (is_up after ≡ true → after ≡ before)

abbrev pub NewsIsOfLinks : Type 0
NewsIsOfLinks = (s : Setup) (d : Dial) (now : ℕ) (event : Event) (h : List DialEvent)
    → IsNewsOf (news event (phase h)) (phase h) (phase (heard s d now event h))

-- ---- over one dialer

-- each of the connections over one dialer is dialed as it would be by itself
abbrev pub EachDialsAlone : Type 0
EachDialsAlone = (h : List DialerEvent) (c : ℕ) (s : Setup) → AreDialing h → setup_of c h ≡ Some s → IsDialing s (moves c h)

-- no lane was answered to two of them
abbrev pub LanesAreApart : Type 0
LanesAreApart = (h : List DialerEvent) (lane c k : ℕ) → AreDialing h
    → has_asked lane (history c h) ≡ true → has_asked lane (history k h) ≡ true → c ≡ k

-- so an event is one of them's at most
abbrev pub EventsReachOne : Type 0
EventsReachOne = (h : List DialerEvent) (lane c k : ℕ) → AreDialing h
    → is_on lane (phase (history c h)) ≡ true → c ≢ k → is_on lane (phase (history k h)) ≡ false
