-- How many connections are dialed over one dialer, whose numbers whoever dials has given them.
use Rattle.std.specs.Prelude.{◌≡◌, ℕ, Bool, true, false, ◌==◌, List, [], ◌∷◌, Option, Some, None, if◌then◌else◌}
use Rattle.hw_door.specs.declared.heard.Event.{Event}
use Rattle.hd_dialing.specs.Asks.{Setup}
use Rattle.hd_dialing.specs.Events.{DialEvent, has_asked}
use Rattle.hd_dialing.specs.Plans.{Dial}
use Rattle.hd_dialing.specs.Dialing.{Move, happened, MayMove}
use Rattle.hd_dialing.specs.Dialing as move

-- what happens to them, the latest first
pub data DialerEvent : Type 0 where
  Begins : (connection : ℕ) → (setup : Setup) → DialerEvent
  Hears : (now : ℕ) → (event : Event) → (dial : Dial) → DialerEvent  -- every one of them hears it
  Moves : (connection : ℕ) → (move : Move) → DialerEvent  -- one of them alone

abbrev pub setup_of : ℕ → List DialerEvent → Option Setup
setup_of c [] = None
setup_of c (Begins k s ∷ h) = if c == k then Some s else setup_of c h
setup_of c (_ ∷ h) = setup_of c h

-- what one of them did since it began
abbrev pub moves : ℕ → List DialerEvent → List Move
moves c [] = []
moves c (Begins k s ∷ h) = if c == k then [] else moves c h
moves c (Hears now event d ∷ h) = move.Hears now event d ∷ moves c h
moves c (Moves k m ∷ h) = if c == k then m ∷ moves c h else moves c h

abbrev pub happened_with : Option Setup → List Move → List DialEvent
happened_with None ms = []
happened_with (Some s) ms = happened s ms

abbrev pub history : ℕ → List DialerEvent → List DialEvent
history c h = happened_with (setup_of c h) (moves c h)

-- the dialer never answered this lane
abbrev pub IsNewLane : ℕ → List DialerEvent → Type 0
IsNewLane lane h = (c : ℕ) → has_asked lane (history c h) ≡ false

-- a move that one of them makes alone. A dialer answers a new lane to each ask
abbrev pub MayMoveAlone : Move → ℕ → List DialerEvent → Type 0
MayMoveAlone (move.Dials d) c h = IsNewLane d.lane h × MayMove (move.Dials d) (history c h)
MayMoveAlone (move.Hears now event d) c h = ⊥
MayMoveAlone m c h = MayMove m (history c h)

-- It may happen next. What is heard is heard by all that have begun
abbrev pub MayHappen : DialerEvent → List DialerEvent → Type 0
MayHappen (Begins c s) h = setup_of c h ≡ None
MayHappen (Hears now event d) h =
    IsNewLane d.lane h × ((c : ℕ) (s : Setup) → setup_of c h ≡ Some s → MayMove (move.Hears now event d) (history c h))
MayHappen (Moves c m) h = ((s : Setup) × (setup_of c h ≡ Some s)) × MayMoveAlone m c h

-- all this is dialed over one dialer
abbrev pub AreDialing : List DialerEvent → Type 0
AreDialing [] = Unit {0}
AreDialing (x ∷ h) = MayHappen x h × AreDialing h
